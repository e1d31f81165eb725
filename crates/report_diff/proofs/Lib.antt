pub mod Ends
pub mod ByNumber
pub mod Matched
pub mod Named
pub mod Starts
pub mod Sames
pub mod Nothing
