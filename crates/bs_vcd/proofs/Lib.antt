pub mod LevelLemmas
pub mod SamplingLemmas
pub mod TakingLemmas
pub mod CycleLemmas
pub mod FoundLemmas
