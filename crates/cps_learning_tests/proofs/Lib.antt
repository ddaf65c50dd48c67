pub mod Settling
pub mod Deciding
