pub mod EntryLemmas
pub mod CheckLemmas
pub mod NumberLemmas
pub mod EntryBytes
pub mod HeadBytes
pub mod LogBytes
