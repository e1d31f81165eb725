pub mod Quick
pub mod Regions
pub mod Start
pub mod Windows
