pub mod Inputs
pub mod Order
pub mod Room
pub mod Opened
pub mod Begins
