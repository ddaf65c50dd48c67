pub mod AtomRanges
pub mod Trailed
pub mod Domains
pub mod Trails
pub mod Chains
pub mod Known
pub mod Checkers
