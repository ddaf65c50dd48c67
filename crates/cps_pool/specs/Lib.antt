pub mod Naming
pub mod Pools
