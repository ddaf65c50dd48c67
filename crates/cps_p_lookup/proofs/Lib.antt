pub mod Growing
pub mod Resting
pub mod Opening
pub mod Elements
pub mod Closing
pub mod Placing
pub mod Tables
pub mod Excluding
pub mod Tasks
pub mod Missing
pub mod Answering
pub mod Meeting
mod Cells
mod Seeking
pub mod Ending
