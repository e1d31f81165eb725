pub mod Stops
pub mod Placing
pub mod IndirectJumps
pub mod Profiles
