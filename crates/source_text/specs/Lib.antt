pub mod Ordered
pub mod Sources
pub mod Ticks
pub mod Text
pub mod TextsByLines
pub mod Laws
