-- What a lemma is of its hints.
use Rattle.std.specs.Prelude.{◌≡◌, ℕ, true, List, is_some, All, IsTrue}
use Rattle.bs_clause.specs.Literal.{Clause}
use Rattle.bs_log.specs.History.{Entry}
use Rattle.bs_log.specs.Refusal.{has_distinct_variables, entry_of, clauses_of}
use Rattle.bs_log.specs.Propagation.{hints_are_unit, last_is_false}
use Rattle.bs_log.specs.Lean.{IsResolventOf}

-- the lemma is the resolvent of the entries' clauses of these ids, and right by them as hints
pub record IsLoggedLearnt (entries : List Entry) (lemma : Clause) (hints : List ℕ) : Type 0 where
  pub named : All (λ h. is_some (entry_of entries h) ≡ true) hints
  pub distinct : has_distinct_variables lemma ≡ true
  pub unit : IsTrue (hints_are_unit lemma (clauses_of entries hints))
  pub last : IsTrue (last_is_false lemma (clauses_of entries hints))
  pub resolvent : IsResolventOf lemma (clauses_of entries hints)
