pub mod Counted
pub mod Ordered
pub mod Settled
