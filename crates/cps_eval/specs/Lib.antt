pub mod Violations
pub mod Shown
pub mod Equal
pub mod Places
pub mod Levels
pub mod Runs
pub mod Turns
pub mod Walks
