pub mod TableLemmas
pub mod NameLemmas
pub mod NameLengths
pub mod MeaningLemmas
