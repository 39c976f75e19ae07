pub mod Words
pub mod Lines
pub mod Fronts
pub mod WholeFronts
pub mod Bytes
pub mod FieldEnds
pub mod OneName
pub mod OneEntry
pub mod WhichLine
pub mod Runs
pub mod Fillers
pub mod LineCuts
pub mod Went
pub mod OfFamily
pub mod Written
pub mod WrittenHello
pub mod Decimals
pub mod OneValue
pub mod InFamily
pub mod TextStates
pub mod Told
pub mod OneLine
pub mod OneReading
mod BuiltPieces
mod ReadBack
mod Sizes
mod Built
