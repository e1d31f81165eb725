pub mod Instrumented
pub mod Reached
pub mod Doing
pub mod Data
pub mod Readings
pub mod Sums
