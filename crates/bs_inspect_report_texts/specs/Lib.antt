-- what public contracts rest on
pub mod Driven
pub mod Text
pub mod Bench
pub mod Faults
pub mod Law
pub mod Lists
pub mod Fits
