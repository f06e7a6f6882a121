pub mod TokenLemmas
pub mod PackedLemmas
pub mod HeaderLemmas
pub mod SourceLemmas
pub mod IndexLemmas
pub mod ScopeLemmas
pub mod VariableLemmas
