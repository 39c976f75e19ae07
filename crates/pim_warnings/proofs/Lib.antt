pub mod Words
pub mod Named
pub mod Warned
pub mod Begun
