pub mod Words
pub mod Steps
pub mod Ascending
pub mod Sorting
pub mod NamedProcs
pub mod Kept
pub mod LowObjects
