pub mod Built
pub mod Depth
