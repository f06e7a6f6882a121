-- The netlist that a text is, or its first fault.
pub mod Netlist
pub mod Cells
pub mod Terminals
pub mod Building
-- What its names are.
pub mod Law
-- What its functions promise each other.
pub mod Placement
-- What a token is to the grammar, what a module says as it is written, and the productions that relate the two.
pub mod Symbols
pub mod Written
pub mod Productions
-- The reader's syntax value as it is written, and the law.
pub mod Views
pub mod GrammarLaw
