pub mod TextLemmas
pub mod KeyLemmas
pub mod NamingLemmas
pub mod PartLemmas
pub mod WholeLemmas
pub mod AnswerLemmas
pub mod TerminalLemmas
