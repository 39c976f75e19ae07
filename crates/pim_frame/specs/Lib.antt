-- The definitions of the header of a PIM message and its checksum.
pub mod Sum
pub mod Folded
pub mod Frame
pub mod Seen
pub mod Seal
