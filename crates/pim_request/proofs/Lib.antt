pub mod Cited
pub mod Cut
pub mod Faults
pub mod Options
pub mod Unknown
pub mod Prefixes
pub mod Pairs
pub mod OneFault
pub mod WordsOf
pub mod OneCommand
mod Devices
mod Feeds
mod FirstItem
mod Found
mod Held
mod Itemized
mod Passed
mod Places
mod Sorts
mod Steps
mod Whole
