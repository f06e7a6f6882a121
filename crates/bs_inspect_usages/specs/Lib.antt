pub mod Usages
pub mod Settings
pub mod Numbers
