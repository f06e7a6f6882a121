pub mod FinderLemmas
pub mod OwnLemmas
pub mod SearchLemmas
pub mod IndependentLemmas
pub mod ForwardLemmas
pub mod FirstLemmas
