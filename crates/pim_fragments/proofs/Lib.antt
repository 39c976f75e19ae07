pub mod Walks
pub mod Ranges
pub mod Stored
pub mod Taken
pub mod Places
pub mod Moments
pub mod Judged
