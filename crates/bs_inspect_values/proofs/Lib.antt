pub mod RunLemmas
pub mod KeyLemmas
pub mod ReadLemmas
pub mod ValueLemmas
pub mod WalkLemmas
pub mod SimulatedLemmas
pub mod DumpedLemmas
