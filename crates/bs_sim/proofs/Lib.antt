pub mod SourceLemmas
pub mod EventLemmas
pub mod MarkLemmas
pub mod StayLemmas
