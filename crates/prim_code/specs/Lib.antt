pub mod Counts
pub mod Named
pub mod Fitting
pub mod Standing
pub mod Laws
pub mod Rows
