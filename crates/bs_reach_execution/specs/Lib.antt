-- what inner functions promise each other
pub mod Search
pub mod Trial
