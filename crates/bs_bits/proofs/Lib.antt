pub mod TextLemmas
pub mod LineLemmas
pub mod PieceLemmas
pub mod NumberLemmas
pub mod LineTextLemmas
pub mod RangeLemmas
