-- Clauses of a list under their ids, which count from 1.
use Rattle.std.specs.Prelude.{◌≡◌, ℕ, zero, suc, true, List, [], ◌∷◌, ◌++◌, map, Option, Some, None, slice_get}
use Rattle.bs_clause.specs.Literal.{Literal, Clause}
use Rattle.bs_log.specs.Refusal.{denies}
use Rattle.bs_reach_unrolled.specs.Chain.{IsProvedBy}
use Rattle.bs_reach_unrolled.specs.declared.cone.NeededClauses.{NeededClauses}
use Rattle.bs_reach_unrolled.specs.declared.failure.Lemma.{Lemma}
use Rattle.bs_reach_unrolled.specs.declared.rows.UnrolledClause.{UnrolledClause}

-- the clause of an id
abbrev pub clause_at : List Clause → ℕ → Option Clause
clause_at all zero = None
clause_at all (suc n) = slice_get all n

abbrev pub IsRow : List Clause → UnrolledClause → Type 0
IsRow all r = clause_at all r.id ≡ Some r.clause

-- the clauses of these ids
abbrev pub AreRows : List Clause → List ℕ → List Clause → Type 0
AreRows all ids clauses = map (clause_at all) ids ≡ map Some clauses

-- a row more
pub record Adds (old new : NeededClauses) (r : UnrolledClause) : Type 0 where
  pub ids : new.ids.items ≡ old.ids.items ++ r.id ∷ []
  pub clauses : new.clauses.items ≡ old.clauses.items ++ r.clause ∷ []

-- the lemma has one literal, which denies an assumption, and is right by the clauses of its hints
pub record Refutes (all : List Clause) (assumptions : Clause) (d : Lemma) : Type 0 where
  pub literal : Literal
  pub one : d.lits ≡ literal ∷ []
  pub clauses : List Clause
  pub rows : AreRows all d.hints clauses
  pub proved : IsProvedBy clauses d.lits
  pub ends : denies assumptions d.lits ≡ true
