-- what public contracts rest on
pub mod Moments
pub mod Choice
pub mod ChoiceText
pub mod Signature
pub mod Register
pub mod Chain
pub mod Dump
pub mod DumpText
pub mod Present
pub mod Crash
pub mod Law
pub mod Seen
pub mod SeenText
-- what inner functions promise each other
pub mod Reading
