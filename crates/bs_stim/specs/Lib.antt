-- what public contracts rest on
pub mod Runs
pub mod StimulusText
pub mod Law
-- what inner functions promise each other
pub mod RunText
pub mod Packing
pub mod Appending
