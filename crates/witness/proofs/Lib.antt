pub mod Halves
pub mod Ends
pub mod Whole
