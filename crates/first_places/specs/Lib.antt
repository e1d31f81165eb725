pub mod Places
pub mod Entries
pub mod Groups
pub mod Numbers
pub mod Grouped
