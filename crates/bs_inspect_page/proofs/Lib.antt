pub mod PieceLemmas
pub mod OpenLemmas
pub mod StepLemmas
pub mod DrawnLemmas
pub mod RowLemmas
pub mod LastLemmas
pub mod PageLemmas
pub mod Examples
