pub mod Target
pub mod Shown
