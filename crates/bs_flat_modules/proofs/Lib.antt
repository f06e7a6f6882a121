pub mod IdLemmas
pub mod PieceLemmas
pub mod DealLemmas
pub mod ItemLemmas
pub mod EachLemmas
pub mod WithinLemmas
pub mod NameLemmas
pub mod LawLemmas
pub mod ReadLemmas
pub mod CountLemmas
pub mod ShutLemmas
pub mod GoesLemmas
pub mod AloneLemmas
pub mod TidyLemmas
-- The numbers of lexemes, and own texts.
pub mod LexemeCounts
pub mod LexemeNumbers
pub mod CountedPieces
-- What reading takes.
pub mod ShortLemmas
pub mod ShortModules
-- What modules count.
pub mod CountedLists
pub mod CountedTerms
pub mod CountedModules
pub mod BuiltLemmas
pub mod BuiltNames
-- What designs count.
pub mod DesignLemmas
