pub mod Staying
pub mod Ordered
pub mod OneSeeded
pub mod Logged
pub mod Fitting
pub mod Following
pub mod SomeSeeded
