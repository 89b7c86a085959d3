pub mod Script
pub mod Vectors
