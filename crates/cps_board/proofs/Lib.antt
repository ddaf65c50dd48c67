pub mod Basics
pub mod Coded
pub mod Keeps
pub mod OneList
pub mod Events
pub mod FilledRows
