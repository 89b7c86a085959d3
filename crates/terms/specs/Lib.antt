pub mod Search
pub mod Gives
pub mod Known
