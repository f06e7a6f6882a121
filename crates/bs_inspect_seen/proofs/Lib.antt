pub mod ValueLemmas
pub mod NumberLemmas
pub mod GivenLemmas
pub mod StateLemmas
pub mod NoteLemmas
