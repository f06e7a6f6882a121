pub mod Splits
pub mod Keys
pub mod Ranges
pub mod Naming
pub mod Rtl
pub mod Spots
pub mod Quotes
pub mod Nearest
