pub mod NearLemmas
pub mod LineLemmas
