-- The definitions of `pim_fragments`.
pub mod Headers
pub mod Parts
pub mod Seen
pub mod Pieces
pub mod Stored
pub mod Packets
pub mod Places
