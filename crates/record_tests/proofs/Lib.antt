pub mod Follow
pub mod Below
