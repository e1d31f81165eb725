pub mod Made
pub mod Fields
pub mod Symbols
pub mod Layout
pub mod Laws
