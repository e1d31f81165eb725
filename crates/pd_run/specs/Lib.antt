pub mod Guards
pub mod Screens
