pub mod Written
pub mod Nested
pub mod TextPieces
pub mod JsonPieces
