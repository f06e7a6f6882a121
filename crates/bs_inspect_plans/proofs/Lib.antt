pub mod WorkLemmas
pub mod WindowLemmas
pub mod LackingLemmas
