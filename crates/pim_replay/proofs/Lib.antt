pub mod Words
pub mod Ending
pub mod OneReport
pub mod OnTheWay
pub mod Taken
pub mod AllTurns
pub mod Written
pub mod Told
