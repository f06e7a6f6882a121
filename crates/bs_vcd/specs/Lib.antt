pub mod History
pub mod Levels
pub mod Sampled
pub mod Watching
pub mod Found
pub mod Stimulus
pub mod Cycles
