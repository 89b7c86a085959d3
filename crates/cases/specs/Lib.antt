pub mod Table
pub mod Marked
