pub mod Nested
pub mod Boxes
pub mod Says
pub mod Stood
pub mod Taken
pub mod Ends
pub mod Instances
