-- A place of a trail.
use Rattle.std.specs.Prelude.{Bool}
use Rattle.bs_clause.specs.Literal.{Literal}

-- a literal that is true, and whether a clause implied it; a decision and an assumption were not
pub record LoggedPlace : Type 0 where
  pub literal : Literal
  pub implied : Bool
