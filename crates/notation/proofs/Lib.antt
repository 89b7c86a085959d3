pub mod Follow
pub mod Lists
pub mod Every
