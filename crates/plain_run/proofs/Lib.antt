pub mod Harts
pub mod Programs
