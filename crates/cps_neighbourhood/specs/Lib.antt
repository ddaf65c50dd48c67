pub mod Drawing
pub mod Rounds
pub mod Standing
pub mod Nears
pub mod Exploring
