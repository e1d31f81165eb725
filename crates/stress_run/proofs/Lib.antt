pub mod FirstDraws
pub mod Texts
