pub mod SearchLemmas
pub mod TrialLemmas
