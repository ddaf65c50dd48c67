pub mod Beginning
pub mod Assuming
pub mod Reforming
pub mod CoreTurns
pub mod Guiding
