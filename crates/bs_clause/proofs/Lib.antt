pub mod Literals
pub mod Values
pub mod Resolves
pub mod News
pub mod Examples
