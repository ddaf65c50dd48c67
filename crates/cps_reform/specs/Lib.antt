pub mod Forms
pub mod Cores
pub mod Marks
pub mod Floors
pub mod Beginning
