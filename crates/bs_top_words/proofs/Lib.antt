pub mod Prefixes
pub mod Taking
pub mod BudgetLemmas
pub mod SpellingLemmas
pub mod JobLemmas
pub mod ValueLemmas
pub mod FaultLemmas
