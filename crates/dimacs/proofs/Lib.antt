pub mod Texts
mod Instances
