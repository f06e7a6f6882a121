pub mod Simulation
pub mod Work
pub mod Events
pub mod Played
pub mod Marks
