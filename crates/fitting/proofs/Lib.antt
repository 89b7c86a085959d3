pub mod Loops
pub mod Whole
pub mod Begun
pub mod Few
