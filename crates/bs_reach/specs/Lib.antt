-- what public contracts rest on
pub mod Reach
pub mod Text
-- what inner functions promise each other
pub mod FailedAssumptions
pub mod Refuted
pub mod Search
pub mod Ends
pub mod Verdict
pub mod Sought
pub mod Wider
-- a log over few time frames, renamed for all
pub mod Renamed
pub mod Widened
