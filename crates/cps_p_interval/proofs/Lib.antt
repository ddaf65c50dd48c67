pub mod Bounding
pub mod Opposing
pub mod Widening
