pub mod Clauses
pub mod Figures
