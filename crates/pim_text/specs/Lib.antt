-- The definitions of `pim_text`.
pub mod Text
pub mod JoinPruneText
pub mod PartialText
pub mod HelloText
pub mod Value
pub mod Lines
pub mod Read
pub mod Families
pub mod Expected
pub mod Spelled
pub mod SpelledHello
pub mod Fields
pub mod Spell
pub mod Laws
pub mod OneReading
pub mod ReadingText
pub mod Building
