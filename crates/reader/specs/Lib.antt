pub mod Work
pub mod Reader
