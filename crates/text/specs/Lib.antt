pub mod Text
pub mod Appends
