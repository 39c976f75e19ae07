-- The definitions of `pim_lines`.
pub mod AnyAddress
pub mod Hex
pub mod PortNames
pub mod Pieces
pub mod ShortText
