pub mod Taken
pub mod Told
pub mod Written
pub mod Case
pub mod Longer
pub mod Filled
