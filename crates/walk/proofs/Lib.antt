pub mod Arrays
pub mod Blank
pub mod Walks
