pub mod SampledPairs
