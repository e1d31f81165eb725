mod Steps
mod Lookups
mod Cycles
mod Clearing
mod OwnAncestors
mod Befores
mod ByKind
mod Keeping
mod Sames
mod Entries
mod OneAnswer
mod Fitting
mod Sounding
mod Judged
pub mod Few
