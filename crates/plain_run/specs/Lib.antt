pub mod Machines
pub mod Views
pub mod Codes
