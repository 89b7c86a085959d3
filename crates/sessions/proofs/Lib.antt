pub mod Facts
pub mod ByRules
pub mod Order
