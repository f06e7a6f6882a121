-- what public contracts rest on
pub mod Arena
pub mod Renaming
pub mod Words
pub mod Open
-- what inner functions promise each other
pub mod Heap
