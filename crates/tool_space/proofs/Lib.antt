pub mod Gives
pub mod Places
pub mod Ranges
pub mod Takes
pub mod Units
