pub mod Changing
pub mod Laws
