-- what public contracts rest on
pub mod Accounts
pub mod Chains
pub mod Since
-- what inner functions promise each other
pub mod Layers
