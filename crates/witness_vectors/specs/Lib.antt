pub mod Asked
pub mod Witnesses
