pub mod TextLemmas
pub mod TallyLemmas
pub mod MarkLemmas
pub mod OrderLemmas
pub mod DumpedLemmas
