-- The definitions of `pim_commands`.
pub mod Report
pub mod Partial
pub mod Ends
pub mod Building
pub mod Routers
pub mod Shown
pub mod Tracing
pub mod Auditing
pub mod Answers
pub mod Engines
pub mod Opening
pub mod Commands
pub mod Laws
pub mod Running
