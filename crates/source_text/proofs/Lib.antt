pub mod Ordering
pub mod Found
pub mod Places
pub mod Units
pub mod Adding
