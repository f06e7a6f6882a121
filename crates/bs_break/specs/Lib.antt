-- what public contracts rest on
pub mod Bank
-- what inner functions promise each other
pub mod Masks
pub mod Places
