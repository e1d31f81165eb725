pub mod Bins
pub mod Laws
pub mod Steps
