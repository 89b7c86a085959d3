pub mod Trees
pub mod OneTurn
pub mod Scopes
pub mod Pass
