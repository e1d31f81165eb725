pub mod Values
pub mod Fields
pub mod Report
pub mod Laws
