mod Answers
pub mod Unformed
