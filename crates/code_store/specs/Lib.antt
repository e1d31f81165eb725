pub mod Owners
pub mod Stores
pub mod Codes
pub mod Views
pub mod Operations
