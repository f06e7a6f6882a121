-- what public contracts rest on
pub mod Preimage
pub mod Asking
pub mod Listed
pub mod Probe
-- what inner functions promise each other
pub mod Rest
pub mod Turn
pub mod Finding
pub mod Step
pub mod Order
