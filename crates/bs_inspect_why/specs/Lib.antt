-- what public contracts rest on
pub mod Question
pub mod Stills
pub mod Table
pub mod Denials
pub mod Why
