pub mod Tables
pub mod Packed
