pub mod Entries
pub mod Chained
pub mod Left
