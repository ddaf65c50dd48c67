pub mod Below
pub mod Chains
pub mod Implied
pub mod Among
