-- The literals that are true.
use Rattle.std.specs.Prelude.{◌≡◌, Bool, List}
use Rattle.bs_clause.specs.Literal.{Literal, Clause, code_of, has_literal}
use Rattle.bs_log.specs.Propagation.{start_of}
use Rattle.bs_log.specs.Refusal.{has_distinct_variables}
use Rattle.bs_rup.specs.declared.marks.LiteralSet.{LiteralSet}
use Rattle.bs_rup.specs.LiteralSet.{is_marked}

-- a literal is marked exactly where it stands in the list
pub record AreMarked (literals : List Literal) (marks : LiteralSet) : Type 0 where
  pub marked : (l : Literal) → is_marked marks (code_of l) ≡ has_literal literals l

-- all literals of the clause are false, and whether no variable stands in it twice
pub record IsSetFalse (clause : Clause) (trail : List Literal) (answer : Bool) : Type 0 where
  pub trues : trail ≡ start_of clause
  pub distinct : answer ≡ has_distinct_variables clause
