pub mod Words
pub mod ShiftInstances
pub mod Shifts
pub mod Marked
