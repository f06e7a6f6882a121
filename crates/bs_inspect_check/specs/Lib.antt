-- what public contracts rest on
pub mod Samples
pub mod Flops
pub mod Inputs
pub mod Comparison
pub mod Text
-- what inner functions promise each other
pub mod Taking
pub mod Tallies
