-- The definitions of `pim_warnings`.
pub mod Naming
pub mod Warnings
pub mod Census
