pub mod Demand1
pub mod ReportedDepth
pub mod Demand2
pub mod Demand3
