pub mod Words
pub mod Orders
pub mod Found
pub mod Added
pub mod Parts
