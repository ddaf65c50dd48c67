pub mod Crowds
pub mod Packing
