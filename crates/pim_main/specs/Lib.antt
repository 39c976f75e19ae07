-- The definitions that contracts of this crate cite.
pub mod Running
pub mod Session
