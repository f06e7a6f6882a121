-- The keys of nets, what a module declares or its first fault, and the numbers of its nets.
pub mod Keys
pub mod Declaring
pub mod Nets
-- Where a name stands in a text, and what stands before a place.
pub mod Standing
pub mod Before
-- What the functions of this pass and of the next promise each other.
pub mod Checking
