pub mod Names
pub mod Decoded
pub mod Parts
pub mod Shapes
pub mod Forms
pub mod Lines
pub mod Spelled
pub mod Coded
pub mod TextLines
pub mod Standing
mod Comments
