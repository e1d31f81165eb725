pub mod BinLines
pub mod Drafts
pub mod Reading
pub mod Readable
pub mod Taking
pub mod Laws
