pub mod Breaks
pub mod Writes
pub mod High
pub mod Runs
pub mod Free
pub mod Flats
