pub mod LayoutLemmas
pub mod LevelLemmas
pub mod PairLemmas
pub mod ProgramLemmas
pub mod SettlingLemmas
pub mod LoadLemmas
pub mod PlaneLemmas
