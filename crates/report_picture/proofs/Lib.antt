pub mod Ends
pub mod Safe
pub mod StepHeights
pub mod Balance
pub mod Joins
