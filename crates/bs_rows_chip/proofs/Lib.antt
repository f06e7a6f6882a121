pub mod WidthLemmas
pub mod SolverLemmas
