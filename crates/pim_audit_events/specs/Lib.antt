-- The definitions of `pim_audit_events`: the lines of an audit, and which of them are shown.
pub mod Lines
pub mod Seen
pub mod Filter
