-- What the contract of `next_token` rests on.
pub mod Tokens
pub mod Placing
-- The lexemes of a text and its names, and that numbers of any length are told apart.
pub mod Lexemes
pub mod Packed
pub mod Apart
-- What inner functions promise each other.
pub mod Bytes
