pub mod Options
pub mod Reading
pub mod Seen
pub mod Wishes
