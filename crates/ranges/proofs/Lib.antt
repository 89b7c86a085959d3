pub mod Apart
pub mod Counts
pub mod Worked
pub mod Codes
pub mod Covered
pub mod Sound
