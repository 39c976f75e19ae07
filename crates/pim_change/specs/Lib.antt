-- The definitions that the contracts of `pim_change` cite.
pub mod Change
pub mod Seen
pub mod TooBig
pub mod Laws
pub mod Written
pub mod Runs
