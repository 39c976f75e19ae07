-- The definitions of `pim_run`. `Run` says what a run does, `Faults` why it stops; `Underway`
-- serves private functions only.
pub mod Faults
pub mod Run
pub mod Underway
