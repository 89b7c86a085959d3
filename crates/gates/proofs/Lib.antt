pub mod InTurn
mod Signs
