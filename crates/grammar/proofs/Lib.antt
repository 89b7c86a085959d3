pub mod Decimal
pub mod Words
pub mod Ranges
pub mod TextIsClauses
