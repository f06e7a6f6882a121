-- what public contracts rest on
pub mod Stepped
pub mod SignatureHashes
-- what inner functions promise each other
pub mod Replay
pub mod Live
pub mod Lockstep
pub mod Inputs
pub mod Hashes
pub mod Alike
pub mod Parities
pub mod Index
pub mod Chip
