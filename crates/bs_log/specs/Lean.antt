-- A lean log: what its steps leave behind, and what its lemmas are.
use Rattle.std.specs.Prelude.{◌≡◌, ◌≢◌, ◌↔◌, ◌⊎◌, ℕ, ◌+◌, Bool, true, false, List, [], ◌∷◌, drop, Some, None, IsTrue, All, Any, Contains, slice_get}
use Rattle.std.specs.List.{list_any, filter}
use Rattle.bs_clause.specs.Literal.{Literal, Clause, negation}
use Rattle.bs_log.specs.declared.line.Line.TheVariants.{Lemma, Retire, Delete}
use Rattle.bs_log.specs.declared.origin.Origin.TheVariants.{Blocked}
use Rattle.bs_log.specs.History.{Problem, History, Entry, step_of, live}
use Rattle.bs_log.specs.Refusal.{is_lemma, clauses_of, denies, assumptions_of}
use Rattle.bs_log.specs.Propagation.{unit_literal, start_of}
use Rattle.bs_log.specs.Kept.{kept_lemmas}

-- ---- what a step leaves

abbrev pub is_block : Entry → Bool
is_block e = elim e.origin [ Blocked ↦ true | _ ↦ false ]

-- after the step the live lemmas are those kept, and no block lives
pub record LeavesKept (p : Problem) (step : ℕ) (retired after : History) : Type 0 where
  pub lemmas : filter is_lemma (live p after) ≡ kept_lemmas p step (live p retired)
  pub blocks : list_any is_block (live p after) ≡ false

abbrev pub StepsLeaveKept : Problem → History → Type 0
StepsLeaveKept p [] = Unit {0}
StepsLeaveKept p (Delete ids ∷ Retire id ∷ earlier) =
    LeavesKept p (step_of earlier) (Retire id ∷ earlier) (Delete ids ∷ Retire id ∷ earlier) × StepsLeaveKept p earlier
StepsLeaveKept p (Retire id ∷ earlier) =
    LeavesKept p (step_of earlier) (Retire id ∷ earlier) (Retire id ∷ earlier) × StepsLeaveKept p earlier
StepsLeaveKept p (line ∷ earlier) = StepsLeaveKept p earlier

-- ---- what a lemma is

-- each literal of the one clause stands in the other
abbrev pub IsContained : Clause → Clause → Type 0
IsContained c d = All (Contains d) c

-- the lemma ends its step, or contains no clause that stands
abbrev pub IsNew : Problem → History → Clause → Type 0
IsNew p earlier lemma =
    IsTrue (denies (assumptions_of p (step_of earlier)) lemma) ⊎ All (λ e. ¬ IsContained e.literals lemma) (live p earlier)

-- the literals that the hints but the last make true, in their order
abbrev pub implied_by : List Literal → List Clause → List Literal
implied_by trues [] = []
implied_by trues (last ∷ []) = []
implied_by trues (c ∷ d ∷ cs) = elim (unit_literal trues c) [ None ↦ [] | Some l ↦ l ∷ implied_by (l ∷ trues) (d ∷ cs) ]

-- each literal that a hint makes true is resolved with a later hint, and the lemma has the literals that are left
pub record IsResolventOf (lemma : Clause) (hints : List Clause) : Type 0 where
  pub used : (k : ℕ) (l : Literal) → slice_get (implied_by (start_of lemma) hints) k ≡ Some l →
      Any (λ c. Contains c (negation l)) (drop (k + 1) hints)
  pub literals : (l : Literal) → Contains lemma l ↔
      (Any (λ c. Contains c l) hints × All (λ m. m.variable ≢ l.variable) (implied_by (start_of lemma) hints))

abbrev pub LemmasAreLean : Problem → History → Type 0
LemmasAreLean p [] = Unit {0}
LemmasAreLean p (Lemma id lits hints ∷ earlier) =
    IsNew p earlier lits × IsResolventOf lits (clauses_of (live p earlier) hints) × LemmasAreLean p earlier
LemmasAreLean p (line ∷ earlier) = LemmasAreLean p earlier

pub record IsLean (p : Problem) (history : History) : Type 0 where
  pub steps : StepsLeaveKept p history
  pub lemmas : LemmasAreLean p history
