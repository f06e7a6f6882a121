pub mod Called
pub mod Cone
pub mod Mapping
pub mod Vectors
pub mod Tagged
