pub mod PieceLemmas
pub mod ScanLemmas
pub mod PlacingLemmas
pub mod Examples
pub mod DigitLemmas
pub mod NamingLemmas
pub mod ApartLemmas
