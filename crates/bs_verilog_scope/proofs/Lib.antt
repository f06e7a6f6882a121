pub mod TableLemmas
pub mod NumberLemmas
pub mod DeclaringLemmas
pub mod BeforeLemmas
