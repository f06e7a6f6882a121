-- What is read of a text of several modules.
pub mod Reading
-- A text dealt out: its modules, and what stands outside them.
pub mod Dealing
-- What the own text of each module says, and its instances.
pub mod Owns
-- When a module's own text says alone what it says with all that stands outside the modules.
pub mod Alone
pub mod Items
pub mod Names
-- Lexemes put together from parts of a text.
pub mod Copying
-- What is read from the lexemes of a text.
pub mod Texts
-- What the modules of a text count.
pub mod Modules
-- What designs count.
pub mod Designs
