pub mod Standing
pub mod Readings
pub mod Theorems
pub mod Runs
