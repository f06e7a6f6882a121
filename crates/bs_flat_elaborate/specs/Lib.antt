-- What is made once of a design and then only read.
pub mod Laid
-- The keys of flat nets.
pub mod Keys
-- The names that the keys are, or why they are none.
pub mod Naming
-- The flat parts, path by path.
pub mod Parts
-- How many inputs of gates, constants and ports there are, node by node.
pub mod Terminals
-- The flat parts together, and the answer for a design.
pub mod Whole
