pub mod BitFits
pub mod Noting
pub mod SumFits
