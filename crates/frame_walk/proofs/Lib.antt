pub mod Starts
pub mod Lengths
pub mod Rooms
pub mod Changing
pub mod Steps
pub mod Waits
