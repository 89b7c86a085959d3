pub mod Witness
pub mod Firsts
