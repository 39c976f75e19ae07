-- The definitions of `pim_replay`.
pub mod Events
pub mod Passing
pub mod Turn
pub mod Replay
pub mod Report
pub mod Laws
pub mod Quiet
