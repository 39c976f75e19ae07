-- The definitions of Hello messages and neighbours (RFC 7761, 4.3 and 4.9.2) that contracts and
-- laws cite.
pub mod Hello
pub mod Delays
pub mod Options
pub mod Row
pub mod Faults
pub mod Value
pub mod Seen
pub mod Steps
pub mod Spelling
pub mod Neighbours
pub mod Laws
pub mod Interval
pub mod KeptDelays
pub mod Kept
pub mod Index
pub mod Walk
