pub mod Intervals
pub mod Facts
pub mod Bars
pub mod Owners
