pub mod Seeded
pub mod Rounds
pub mod Recorded
pub mod Replayed
