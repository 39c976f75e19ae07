-- The definitions of `pim_audit_laws`.
pub mod Asked
pub mod Laws
