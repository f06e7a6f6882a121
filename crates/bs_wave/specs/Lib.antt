-- what public contracts rest on
pub mod Wave
pub mod WaveText
pub mod WaveReading
pub mod PartialWave
pub mod WayIn
pub mod Law
-- what inner functions promise each other
pub mod Appending
pub mod Deciding
pub mod Making
