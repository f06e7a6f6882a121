pub mod Marks
pub mod Lines
pub mod Sizes
pub mod Tallies
pub mod Order
pub mod Dumped
