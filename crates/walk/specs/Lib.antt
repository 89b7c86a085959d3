pub mod Blank
pub mod Leaves
