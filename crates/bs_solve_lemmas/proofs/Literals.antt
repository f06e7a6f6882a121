-- Literals that stand in a list, and those that do not.
use Rattle.std.proofs.Common.{◌≡◌, false, sym, ◌∙◌}
use Rattle.std.specs.Prelude.{Contains}
use Rattle.std.proofs.lemmas.Bool.{false≢true}
use Rattle.bs_clause.specs.Literal.{Literal, Clause, has_literal}
pub use Rattle.bs_clause.proofs.Literals.{same_literal-refl, Contains-from_has, has-from_Contains}
pub use Rattle.bs_watch.proofs.Literals.{negation-negation}

pub absent : (c : Clause) (l : Literal) → has_literal c l ≡ false → ¬ Contains c l
absent c l h k = false≢true (sym h ∙ has-from_Contains c l k)
