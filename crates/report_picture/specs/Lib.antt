pub mod Escapes
pub mod Labels
pub mod TreeLines
pub mod Axis
pub mod TimeLines
pub mod Svg
pub mod Html
pub mod Laws
