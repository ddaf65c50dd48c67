pub mod Profile
pub mod Running
pub mod Measuring
pub mod Relying
pub mod Levels
