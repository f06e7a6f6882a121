pub mod Nearest
pub mod Listings
pub mod Simulations
pub mod Names
