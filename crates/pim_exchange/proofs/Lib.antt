pub mod Words
pub mod Written
pub mod Runs
pub mod FreshHearings
pub mod Moves
pub mod Exchanged
pub mod Changes
