pub mod HeadLemmas
pub mod RunLemmas
pub mod WritingLemmas
pub mod PackingLemmas
pub mod CharacterLemmas
pub mod ReadBackLemmas
pub mod ExactLemmas
