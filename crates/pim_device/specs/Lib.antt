-- The definitions of devices that bytes are read from and written to.
pub mod Device
pub mod Scripted
