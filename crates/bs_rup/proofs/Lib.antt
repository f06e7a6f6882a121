pub mod Lists
pub mod Places
pub mod HintSteps
pub mod Stores
pub mod Steps
pub mod Distinct
pub mod Units
pub mod Verdicts
