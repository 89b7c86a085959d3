pub mod Gates
pub mod Circuits
pub mod Templates
