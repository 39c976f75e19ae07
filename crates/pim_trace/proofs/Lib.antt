pub mod Words
pub mod Machines
pub mod Maps
pub mod Verdicts
pub mod Writing
pub mod Neighbours
pub mod Hearings
pub mod Loops
pub mod Written
pub mod Schedule
pub mod Fires
pub mod OnTheWay
pub mod Listed
pub mod Millisecond
mod Pieces
mod TakenTurn
mod Underway
mod Ending
mod Counts
pub mod StateTexts
mod StateListed
pub mod Folding
mod Caused
mod Firings
mod FoldedTime
mod FoldedHearing
mod FoldedPacket
mod FoldedTrace
mod StateCaused
