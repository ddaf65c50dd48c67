pub mod Graphs
pub mod Clashes
pub mod Showing
pub mod Counts
