pub mod SmallNumbers
pub mod WorkedClauses
pub mod WorkedFloors
