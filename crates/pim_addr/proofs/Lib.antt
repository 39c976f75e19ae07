pub mod Words
pub mod Pieces
pub mod ReadBack
pub mod TextNames
pub mod Places
pub mod Numbers
mod RangeEnds
mod AnswersOver
mod OneMoreEnd
mod OneMoreRow
mod RowOrder
mod Inserted
mod SameRows
mod AnyOrder
mod OneRow
pub mod CountBelow
