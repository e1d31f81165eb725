pub mod KnownBytesLemmas
pub mod ReadingLemmas
pub mod ReadsLemmas
