pub mod Ports
pub mod Endings
pub mod Workers
pub mod Deciding
pub mod Logs
pub mod Outcomes
pub mod Crews
pub mod Turning
