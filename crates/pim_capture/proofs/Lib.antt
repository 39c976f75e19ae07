pub mod Ranges
pub mod Fronts
pub mod Records
pub mod Known
pub mod Taken
pub mod Room
