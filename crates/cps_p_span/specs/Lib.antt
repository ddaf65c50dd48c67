pub mod Citing
pub mod Hulls
pub mod Spans
