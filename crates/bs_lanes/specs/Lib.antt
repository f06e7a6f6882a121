-- what public contracts rest on
pub mod Lanes
pub mod Planes
-- what inner functions promise each other
pub mod Settling
pub mod Levels
pub mod Pairs
pub mod Program
pub mod Layout
