pub mod Inputs
pub mod Reading
pub mod Outcomes
pub mod Logs
pub mod Answers
pub mod Checks
pub mod Runs
