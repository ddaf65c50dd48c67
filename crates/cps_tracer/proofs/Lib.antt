pub mod Items
pub mod Tracing
