pub mod Sums
pub mod Seals
