-- The definitions of `pim_event_lines`.
pub mod Moments
pub mod Counts
pub mod Files
pub mod TextLine
pub mod JsonLine
