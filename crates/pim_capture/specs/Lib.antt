pub mod Header
pub mod Frame
pub mod Names
pub mod Capture
pub mod Seen
pub mod Next
pub mod Parts
