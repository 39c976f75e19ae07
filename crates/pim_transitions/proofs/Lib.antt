pub mod Words
mod Effects
mod Causes
mod Telling
mod Keys
mod Lasts
mod Listing
mod Walks
mod Sorting
mod StarSets
mod Candidates
mod OneList
mod Existing
