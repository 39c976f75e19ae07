-- The definitions of `pim_choice_laws`.
pub mod Choices
