pub mod Writing
pub mod Fitting
pub mod Subjects
pub mod Boxes
pub mod Deriving
pub mod Rows
pub mod Runs
