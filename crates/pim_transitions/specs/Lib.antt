-- The definitions that contracts of `pim_transitions` cite. `Transitions` gives the meaning of the
-- result, `Affected` that of the list which is made before the message. `Laws` says how they belong
-- together, and `Marks` serves private steps.
pub mod Transitions
pub mod Affected
pub mod Marks
pub mod Laws
