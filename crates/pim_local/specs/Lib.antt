-- The definitions of `pim_local`.
pub mod Joins
pub mod Seen
