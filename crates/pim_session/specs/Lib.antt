-- The definitions of a session.
pub mod State
pub mod Request
pub mod Seen
pub mod Gathering
pub mod SetupSeen
pub mod RouterSeen
pub mod Answers
pub mod Dialog
pub mod Underway
pub mod OneDialog
