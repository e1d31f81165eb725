pub mod Places
pub mod Pushed
pub mod Removed
pub mod Walks
pub mod Nexts
pub mod RemovedEntry
pub mod Skips
