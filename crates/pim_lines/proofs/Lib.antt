pub mod Copied
pub mod Decimals
pub mod ShortTexts
pub mod Unread
pub mod Written
