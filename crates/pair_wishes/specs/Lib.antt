pub mod Foci
pub mod Wishes
