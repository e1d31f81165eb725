pub mod FaultLemmas
pub mod SortedLoads
pub mod FoundText
pub mod FoundSymbols
pub mod AcceptedImages
pub mod Countable
