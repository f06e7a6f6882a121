pub mod AskedLemmas
pub mod StillLemmas
pub mod TableLemmas
pub mod TellingLemmas
pub mod WhyLemmas
