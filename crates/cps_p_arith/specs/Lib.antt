pub mod Ranges
pub mod Products
pub mod Divisions
pub mod Maxima
pub mod Demands
