pub mod Value
pub mod Given
pub mod State
pub mod Readings
pub mod Taken
