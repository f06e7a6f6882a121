pub mod CalledLemmas
pub mod FitLemmas
pub mod PatternLemmas
pub mod CountLemmas
pub mod OrderLemmas
pub mod BehindLemmas
pub mod NameLemmas
