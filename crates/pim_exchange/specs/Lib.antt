-- The definitions of `pim_exchange`.
pub mod Fault
pub mod Runs
pub mod Same
pub mod FreshHearing
pub mod MirrorText
pub mod Emit
pub mod ChangeHearing
pub mod ChangeText
