pub mod Evaluate
