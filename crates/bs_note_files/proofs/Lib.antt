pub mod NoteLemmas
pub mod SignatureLemmas
pub mod KindLemmas
