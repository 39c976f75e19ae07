pub mod Course
pub mod Hearing
pub mod Carrying
pub mod Runs
pub mod Laws
