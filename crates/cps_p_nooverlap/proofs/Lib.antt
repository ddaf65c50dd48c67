pub mod Packing_laws
pub mod Turning
pub mod Crowding
pub mod Claims
pub mod Lasting
