-- The definitions of `pim_words`.
pub mod CommandLine
pub mod Faults
pub mod Ends
pub mod Given
pub mod Inputs
pub mod Labels
pub mod Links
pub mod Ports
pub mod Shown
pub mod Reading
pub mod Rows
pub mod Seen
pub mod Table
pub mod Typed
pub mod Plan
