pub mod Fields
pub mod Laws
pub mod Meaning
pub mod Spelling
