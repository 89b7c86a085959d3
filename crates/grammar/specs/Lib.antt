pub mod Dimacs
pub mod Read
