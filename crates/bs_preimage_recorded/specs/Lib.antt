-- what public contracts rest on
pub mod Finder
pub mod Own
pub mod Search
pub mod Groups
pub mod Forward
pub mod Firsts
-- flip-flops that load the same bit under all inputs with one data input's value
pub mod Independent
pub mod Marked
