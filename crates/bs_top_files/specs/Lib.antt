pub mod Refusals
pub mod Causes
pub mod Readings
pub mod Entry
pub mod Ready
pub mod Props
pub mod Law
pub mod Steps
-- What a text is answered with.
pub mod Answers
-- What its modules are answered with.
pub mod Modules
