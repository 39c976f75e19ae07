pub mod Facts
pub mod Lists
pub mod Messages
pub mod Routers
pub mod Summary
