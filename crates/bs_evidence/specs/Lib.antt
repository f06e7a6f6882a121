-- what public contracts rest on
pub mod Evidence
pub mod Words
pub mod Lengths
pub mod LengthLaw
pub mod WholeCnf
pub mod WholeProof
pub mod WholeLaw
-- what inner functions promise each other
pub mod Logged
pub mod WholeWalk
