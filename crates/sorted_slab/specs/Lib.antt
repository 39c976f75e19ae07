-- The definitions of lists in order whose items are in a slab. None of them is about PIM.
pub mod Listed
pub mod Sound
