pub mod Inverses
pub mod Sides
pub mod Networks
pub mod Runs
pub mod Facts
pub mod Cuts
