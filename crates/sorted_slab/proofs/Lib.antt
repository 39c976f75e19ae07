pub mod Words
pub mod Found
pub mod Kept
