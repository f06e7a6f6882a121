-- what public contracts rest on
pub mod Limits
pub mod Facts
pub mod Rows
pub mod Causes
pub mod Stretches
pub mod Reasons
pub mod Groups
pub mod Throughout
pub mod Heads
pub mod Blocks
