pub mod Program
pub mod Configuration
pub mod Summary
