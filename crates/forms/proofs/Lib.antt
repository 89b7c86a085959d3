pub mod Taken
pub mod Written
pub mod RoundTrip
pub mod Lengths
pub mod Outcomes
