pub mod SplitLemmas
pub mod RtlLemmas
pub mod SpaceLemmas
pub mod NamingLemmas
mod NearestLemmas
pub mod PieceLemmas
