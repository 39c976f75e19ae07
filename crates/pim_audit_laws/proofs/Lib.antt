pub mod Words
pub mod Groups
pub mod Nothing
pub mod NoReceivers
pub mod Demands
