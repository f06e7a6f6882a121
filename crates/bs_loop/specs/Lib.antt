-- what public contracts rest on
pub mod Budget
pub mod Bound
pub mod Searched
pub mod HitInput
-- what inner functions promise each other
pub mod Recorded
pub mod KnownCand
pub mod Lookout
pub mod Made
pub mod Turn
pub mod Way
pub mod Report
