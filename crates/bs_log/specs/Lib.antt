-- what public contracts rest on
pub mod History
pub mod Propagation
pub mod Refusal
pub mod Kept
pub mod Lean
pub mod Refutation
pub mod Shown
pub mod Steps
pub mod FirstRefused
pub mod LineText
pub mod Writing
pub mod LineReading
pub mod LineForms
pub mod Cnf
pub mod Proof
pub mod ShownLaw
pub mod Clauses
pub mod Lines
-- what inner functions promise each other
pub mod Walk
