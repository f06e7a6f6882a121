-- What a design is, what it means, its flat parts, and the law that these keep its meaning.
pub mod Design
pub mod Meaning
pub mod Flat
pub mod Law
pub mod Executions
-- What the list of its paths is.
pub mod Paths
-- The design that a text of several modules is, or its first refusal.
pub mod Pieces
pub mod Instancing
pub mod Connecting
pub mod Rings
pub mod Reading
-- How its parts and its depth are counted by modules, and its nets numbered by paths.
pub mod Counts
pub mod Numbers
-- What the modules and the flat nets of every text keep.
pub mod Wholeness
pub mod Names
-- Modules by what they instance: an order, or a ring.
pub mod Ring
-- Marks of the modules that one instances.
pub mod Marks
-- The gates that stand for modules.
pub mod Gates
-- What the modules of a text are to each other.
pub mod Hierarchy
pub mod Refusals
-- Each instance by the number of its module.
pub mod ModuleNumbers
-- Where the module with a name stands among all.
pub mod Places
