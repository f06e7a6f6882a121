pub mod Tokens
pub mod Words
pub mod Header
pub mod Sources
pub mod TagIndex
pub mod Scopes
