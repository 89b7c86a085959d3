pub mod Ranges
pub mod MayReach
