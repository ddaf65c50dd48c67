pub mod Coding
pub mod Rows
pub mod OneList
pub mod Events
pub mod Seats
