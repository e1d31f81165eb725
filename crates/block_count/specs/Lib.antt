pub mod Texts
pub mod Heads
pub mod Counters
pub mod CountedBlocks
pub mod Course
pub mod Counted
pub mod Marked
pub mod Readings
