pub mod Lists
pub mod Drawn
pub mod Faults
pub mod Reaches
pub mod Knapsacks
pub mod Jobshops
pub mod Tours
pub mod Generated
