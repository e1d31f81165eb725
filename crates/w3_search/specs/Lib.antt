pub mod Testing
pub mod Refining
pub mod Linked
pub mod Nodes
pub mod Steps
pub mod History
pub mod Index
pub mod States
