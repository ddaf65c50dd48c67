pub mod Denials
pub mod Forces
pub mod Tasks
pub mod Past
pub mod Passes
pub mod Negating
