-- The top module as written, or the first fault.
pub mod Modules
-- What the parts of the grammar are read as.
pub mod Reading
pub mod Unsupported
pub mod Terms
pub mod Declarations
pub mod Parts
pub mod Packed
-- The words by which a refusal names what is left out.
pub mod Refusals
