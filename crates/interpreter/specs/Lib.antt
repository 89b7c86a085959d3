pub mod Store
pub mod Promise
