pub mod Noted
pub mod Ready
