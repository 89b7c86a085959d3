pub mod Evaluates
