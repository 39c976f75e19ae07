-- The definitions of addresses, encoded addresses, texts and route tables.
pub mod Address
pub mod Families
pub mod Equality
pub mod Faults
pub mod Encoded
pub mod Seen
pub mod Text
pub mod Canonical
pub mod TextForms
pub mod Order
pub mod Routes
pub mod RouteRows
pub mod RouteLaws
