mod CallLemmas
pub mod TurnedLemmas
pub mod LookLemmas
pub mod PartlyLemmas
pub mod NoteLemmas
pub mod EndingLemmas
pub mod AnswerLemmas
