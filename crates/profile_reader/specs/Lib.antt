pub mod Lines
pub mod Reading
pub mod Pairs
pub mod Laws
