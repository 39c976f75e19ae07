-- The definitions of the lines of a session.
pub mod Forms
pub mod Commands
pub mod Steps
pub mod OneRequest
pub mod Items
pub mod Reading
pub mod Input
pub mod Held
