-- The definitions of `pim_files`.
pub mod LineFile
pub mod RoutesFile
pub mod RoutesSeen
pub mod LocalFile
pub mod LocalSeen
pub mod Files
pub mod Unopened
pub mod Table
pub mod Receivers
pub mod Captures
pub mod Held
pub mod Opening
