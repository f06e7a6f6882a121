-- what public contracts rest on
pub mod Facts
pub mod Blocks
pub mod Sources
pub mod Seen
-- what inner functions promise each other
pub mod Marked
