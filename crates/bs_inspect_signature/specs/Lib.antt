-- what public contracts rest on
pub mod Signature
pub mod Enough
pub mod Tried
pub mod Reading
pub mod MomentCount
pub mod Spread
pub mod Lines
pub mod Deck
pub mod Mixed
pub mod Proposal
pub use Rattle.bs_gen.specs.Draws
-- what inner functions promise each other
pub mod Items
