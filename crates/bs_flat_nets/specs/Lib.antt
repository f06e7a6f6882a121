-- The design that blocks are, and an order of its modules.
pub mod Blocks
pub mod Order
-- How the flat nets are counted.
pub mod Nets
-- What tables of depths and counts say.
pub mod Tables
-- What lists of constants say.
pub mod Constants
-- What sums over the modules of blocks are.
pub mod Sums
-- How nets are climbed.
pub mod Climbing
-- The nets that joins leave to an instance.
pub mod Free
-- The flat nets, taken one by one.
pub mod Tally
-- The runs of each instance in order.
pub mod Rows
-- What the flat nets of a design are numbered by.
pub mod Numbering
