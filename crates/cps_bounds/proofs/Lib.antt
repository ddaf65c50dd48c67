pub mod Folds
pub mod Keeps
pub mod Offers
pub mod Events
