pub mod Columns
pub mod Names
pub mod Resources
pub mod Foci
pub mod FocusTexts
pub mod FormStates
pub mod SameNodes
