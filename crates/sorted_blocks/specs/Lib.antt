-- The definitions of lists in blocks. None of them is about PIM.
pub mod Shape
pub mod Sound
pub mod Found
pub mod Sought
pub mod Places
pub mod Laws
