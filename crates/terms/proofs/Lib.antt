pub mod Tables
pub mod Put
pub mod Gives
pub mod Wiped
pub mod Arrays
pub mod Image
