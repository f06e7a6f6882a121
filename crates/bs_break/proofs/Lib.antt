pub mod MaskLemmas
pub mod PlaceLemmas
pub mod BankLemmas
