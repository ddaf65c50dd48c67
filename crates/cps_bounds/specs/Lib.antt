pub mod Rule
pub mod Events
pub mod Seats
