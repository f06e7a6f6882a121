-- what public contracts rest on
pub mod Finding
-- what inner functions promise each other
pub mod Following
pub mod Cut
pub mod StepLines
pub mod Blocked
pub mod Logged
pub mod Codes
