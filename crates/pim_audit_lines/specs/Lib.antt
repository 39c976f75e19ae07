-- The definitions of `pim_audit_lines`.
pub mod AuditText
pub mod AuditJson
