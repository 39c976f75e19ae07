-- The definitions of the calendar and of the texts of times.
pub mod Calendar
pub mod Dates
pub mod Text
pub mod Plain
pub mod Pieces
pub mod Laws
