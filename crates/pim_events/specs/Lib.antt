-- The definitions of `pim_events`.
pub mod Events
pub mod Parts
pub mod Filter
