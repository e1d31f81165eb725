pub mod Holes
pub mod Rooms
