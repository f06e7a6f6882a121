pub mod KeyLemmas
pub mod SignalLemmas
pub mod PieceLemmas
pub mod LemmaLemmas
pub mod KnownLemmas
pub mod TableLemmas
pub mod Examples
