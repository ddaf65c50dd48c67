pub mod Force
pub mod Reasons
pub mod Settling
pub mod Tasks
