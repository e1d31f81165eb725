pub mod Steps
pub mod Accounts
pub mod Flows
pub mod Splits
pub mod Bounds
pub mod Transferring
pub mod Knowing
