pub mod Sorts
pub mod Values
pub mod Bytes
pub mod Chains
pub mod Runs
pub mod Inputs
