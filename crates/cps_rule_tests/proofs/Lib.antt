pub mod Noting
pub mod Readiness
