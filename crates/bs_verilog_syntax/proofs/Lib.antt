pub mod ListingLemmas
pub mod AttributeLemmas
pub mod CarryLemmas
pub mod BodyLemmas
pub mod CellLemmas
