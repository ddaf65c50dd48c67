pub mod Boxes
pub mod Propagation
pub mod Chains
