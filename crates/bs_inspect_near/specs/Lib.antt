-- what public contracts rest on
pub mod Counters
pub mod Distance
pub mod Nearest
pub mod Hints
pub mod Tells
pub mod Novel
pub mod Values
pub mod Novelties
pub mod Known
-- what inner functions promise each other
pub mod Visited
pub mod Told
pub mod Shown
