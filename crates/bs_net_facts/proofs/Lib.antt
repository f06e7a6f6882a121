pub mod BoardLemmas
pub mod CycleLemmas
pub mod PassLemmas
pub mod SeenLemmas
pub mod ToldLemmas
pub mod LawLemmas
