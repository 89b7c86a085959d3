pub mod Formed
pub mod Opens
