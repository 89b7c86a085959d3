pub mod Adding
pub mod Decimals
