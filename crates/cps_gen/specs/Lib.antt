pub mod Families
pub mod Draws
pub mod Parts
pub mod Knapsack
pub mod Jobshop
pub mod Tour
pub mod Shops
pub mod Generated
