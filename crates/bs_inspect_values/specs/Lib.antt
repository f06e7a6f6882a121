pub mod SimulatedRun
pub mod Law
pub mod Simulated
pub mod Dumped
pub mod Words
pub mod Saying
