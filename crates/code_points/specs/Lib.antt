pub mod Procedures
pub mod Objects
pub mod Points
