pub mod Cells
pub mod Writers
pub mod Report
pub mod Laws
