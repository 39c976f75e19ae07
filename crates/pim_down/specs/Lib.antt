-- The definitions that contracts of `pim_down` cite. `Key`, `Tables`, `Records`, `Hearing`,
-- `After`, `Time`, `Firing`, `Heard` and `Sound` give the meaning of public calls. The other
-- modules serve private steps, the view of code values, and laws.
pub mod Key
pub mod Tables
pub mod Records
pub mod Hearing
pub mod After
pub mod Time
pub mod Firing
pub mod Seen
pub mod Ends
pub mod Ordered
pub mod Places
pub mod Store
pub mod Running
pub mod Schedule
pub mod PutOff
pub mod Refresh
pub mod Sound
pub mod Heard
pub mod Space
pub mod Stars
pub mod Laws
pub mod Words
