pub mod Writing
pub mod Fit
