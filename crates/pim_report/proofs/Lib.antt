pub mod Words
pub mod Written
pub mod Texts
pub mod Demands
pub mod MessageTexts
pub mod States
