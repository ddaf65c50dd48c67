pub mod Bits
pub mod Noted
pub mod Sums
