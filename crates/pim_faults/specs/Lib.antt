-- The definitions of `pim_faults`.
pub mod Words
pub mod Ending
pub mod Unopened
pub mod Missing
pub mod Unchosen
