pub mod Frames
pub mod Walks
pub mod Changes
pub mod Openings
pub mod Rooms
pub mod Laws
