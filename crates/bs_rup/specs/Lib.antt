pub mod LiveClauses
pub mod Problem
pub mod Rules
pub mod Follows
pub mod Verdict
pub mod Retired
pub mod LiteralSet
pub mod TrueLiterals
