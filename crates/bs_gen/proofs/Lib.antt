pub mod EachLemmas
pub mod LineLemmas
pub mod Examples
pub mod DrawLemmas
