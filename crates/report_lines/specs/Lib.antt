pub mod Words
pub mod Causes
pub mod Lines
pub mod Readable
pub mod Laws
