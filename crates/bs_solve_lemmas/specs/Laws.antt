-- What the bound on conflicts, and the claim that lemmas are new, rest on.
use Rattle.std.specs.Prelude.{◌≡◌, ◌≢◌, ◌⊎◌, ℕ, ◌+◌, ◌<◌, ◌≤◌, ◌^◌, Bool, true, false, List, [], ◌∷◌, ◌++◌, length, All, Contains}
use Rattle.bs_clause.specs.Literal.{Literal, Clause}
use Rattle.bs_clause.specs.UnitRun.{IsUnitRun}
use Rattle.bs_log.specs.Lean.{IsContained}
use Rattle.bs_watch.specs.Trail.{IsTrueOn, IsFalseOn, IsOpenOn, IsQuiet}
use Rattle.bs_solve_lemmas.specs.Bound.{number}

-- A conflict above level 1 puts an implied literal where a decision stood and leaves the places before it: the number rises.
abbrev pub ConflictsRaiseTheNumber : Type 0
ConflictsRaiseTheNumber =
    (n : ℕ) (before after : List Bool) → length before < n → number n (before ++ false ∷ after) + 1 ≤ number n (before ++ true ∷ [])

-- Another literal lowers no digit.
abbrev pub NumbersGrow : Type 0
NumbersGrow = (n : ℕ) (places more : List Bool) → number n places ≤ number n (places ++ more)

abbrev pub NumbersAreBounded : Type 0
NumbersAreBounded = (n : ℕ) (places : List Bool) → number n places < 2 ^ n

-- Where a trail is quiet and has each assumption, it has each literal of a unit run.
abbrev pub UnitRunsAreOnQuietTrails : Type 0
UnitRunsAreOnQuietTrails =
    (clauses : List Clause) (assumptions run trail : List Literal) → IsQuiet trail clauses →
    All (IsTrueOn trail) assumptions → IsUnitRun clauses assumptions run → All (IsTrueOn trail) run

-- A clause of which one literal was unassigned and the others false on a quiet trail contains none of the clauses.
abbrev pub LearntClausesAreNew : Type 0
LearntClausesAreNew =
    (clauses : List Clause) (trail : List Literal) (learnt : Clause) (l : Literal) → IsQuiet trail clauses → IsOpenOn trail l →
    All (λ m. (m ≡ l) ⊎ IsFalseOn trail m) learnt → All (λ c. ¬ IsContained c learnt) clauses

-- A clause with two unassigned literals keeps a trail quiet.
abbrev pub LearntClausesKeepQuiet : Type 0
LearntClausesKeepQuiet =
    (clauses : List Clause) (trail : List Literal) (learnt : Clause) (l m : Literal) → IsQuiet trail clauses → l ≢ m →
    Contains learnt l → IsOpenOn trail l → Contains learnt m → IsOpenOn trail m → IsQuiet trail (clauses ++ learnt ∷ [])
