pub mod Compactions
pub mod Contents
pub mod Lookups
pub mod Places
pub mod Names
pub mod Spellings
pub mod Splits
-- options and lists
pub mod Gets
-- a heap and its places
pub mod Fitting
-- the order by activity
pub mod Sorting
-- what callers need
pub mod CallerLemmas
