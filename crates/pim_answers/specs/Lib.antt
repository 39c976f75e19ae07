-- The definitions of the answers of a router.
pub mod Lines
pub mod Fault
pub mod Answered
pub mod Families
pub mod Packets
pub mod PacketsSeen
pub mod Running
pub mod RunningSeen
pub mod Reports
pub mod Kept
pub mod StoreSeen
pub mod Demanding
pub mod DemandingSeen
pub mod Neighbours
pub mod OneAnswer
