pub mod Words
pub mod Stops
pub mod Reasons
pub mod Faults
pub mod Searches
