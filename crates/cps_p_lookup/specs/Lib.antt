pub mod Facts
pub mod Resting
pub mod Elements
pub mod Tabling
pub mod Bodies
pub mod Gaps
pub mod Columns
pub mod Cells
