-- The definitions of Join/Prune messages (RFC 7761, 4.9.5) that contracts and laws cite.
pub mod Message
pub mod Spelling
pub mod Parts
pub mod Faults
pub mod Laws
pub mod Canonical
pub mod Plain
pub mod Seen
pub mod Whole
pub mod Reading
pub mod Sources
pub mod Merging
