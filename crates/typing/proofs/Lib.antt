pub mod Grown
pub mod Formed
pub mod Folds
pub mod Does
pub mod Later
pub mod Factory
pub mod States
pub mod Ruled
