-- what public contracts rest on
pub mod Gate
pub mod Circuit
pub mod Order
pub mod Next
pub mod Schedule
pub mod Loops
pub mod Names
pub mod Parts
pub mod Netlist
pub mod Lowest
pub mod Check
pub mod Decided
pub mod Steps
-- what inner functions promise each other
pub mod Inside
pub mod Findings
pub mod Tallies
pub mod Search
