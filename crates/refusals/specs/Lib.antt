pub mod Kinds
pub mod Faults
pub mod Logs
pub mod Refusals
