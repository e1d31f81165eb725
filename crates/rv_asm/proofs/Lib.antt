pub mod Sizes
pub mod LineLabels
pub mod Entries
pub mod Forms
pub mod Strings
pub mod Codes
pub mod FormatFields
pub mod Scratch
pub mod WordBounds
pub mod CleanCode
pub mod SoundDrafts
mod ShorterOperands
mod FormNames
mod Shorter
mod Lengths
pub mod AssembledImages
