-- what public contracts rest on
pub mod Execution
pub mod Unrolled
pub mod Room
pub mod Laws
pub mod Rows
pub mod Chain
