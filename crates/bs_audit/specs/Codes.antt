-- Literals with their codes, for quick look-ups.
use Rattle.std.specs.Prelude.{◌≡◌, ℕ, take, nat_eq}
use Rattle.std.specs.HashSet.{HashSet}
use Rattle.std.specs.HashSet as bag
use Rattle.bs_clause.specs.Literal.{Literal, Clause, code_of, has_literal}

-- the set has the codes of the first so many literals, and no others
pub record HasCodes {S : Type 0} (codes : HashSet ℕ S) (literals : Clause) (count : ℕ) : Type 0 where
  pub exact : (l : Literal) → bag.contains nat_eq codes (code_of l) ≡ has_literal (take count literals) l
