pub mod ChainLemmas
pub mod NetlistLemmas
