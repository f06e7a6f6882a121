-- what public contracts rest on
pub mod Forms
pub mod Reading
pub mod ReadingLaw
pub mod Shown
pub mod Words
pub mod Readings
pub mod Entry
pub mod Searched
