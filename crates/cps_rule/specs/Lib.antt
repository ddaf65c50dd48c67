pub mod Rules
pub mod Facts
