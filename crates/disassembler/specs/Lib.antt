pub mod Operands
pub mod Texts
pub mod FormsSeen
pub mod Laws
