-- The definitions of `pim_trace`. `Trace`, `Turn`, `Heard`, `Passing`, `Reading` and `Ledger` say
-- what a trace is, `StateTrace` and `StateEvents` what one with the state is; `WrittenEvents` says
-- what a call writes of it; `Read`, `Kept` and `Machines` show values of the code; `Underway` serves
-- private functions only. `Folding`, `Causing` and `StateLaws` have the laws.
pub mod Reading
pub mod Ledger
pub mod Machines
pub mod Heard
pub mod Passing
pub mod Turn
pub mod Trace
pub mod StateEvents
pub mod WrittenEvents
pub mod StateTrace
pub mod Read
pub mod Kept
pub mod Folding
pub mod Causing
pub mod StateLaws
pub mod Underway
