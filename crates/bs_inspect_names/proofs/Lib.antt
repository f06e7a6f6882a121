pub mod CalledLemmas
pub mod ConeLemmas
pub mod MappingLemmas
pub mod TaggedLemmas
mod WorkedMaps
