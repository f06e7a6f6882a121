pub mod Rows
pub mod Execution
pub mod Opens
pub mod Columns
pub mod Steps
pub mod Last
pub mod Page
pub mod Law
