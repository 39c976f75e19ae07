pub mod Words
pub mod Dialogs
pub mod Underway
pub mod Setups
pub mod Requests
pub mod Capped
pub mod Adding
pub mod Asked
mod Served
mod Commanded
mod Making
pub mod OneAsked
pub mod OneAnswered
pub mod OneDialog
