-- What a search does to its proof log and its trail.
use Rattle.std.specs.Prelude.{◌≡◌, ℕ, ◌+◌, ◌-◌, ◌≤◌, true, false, List, [], ◌∷◌, ◌++◌, take, drop, length, map, Some, All}
use Rattle.bs_clause.specs.Literal.{Clause}
use Rattle.bs_clause.specs.Range.{HasVariables}
use Rattle.bs_log.specs.declared.origin.Origin.TheVariants.{Learnt}
use Rattle.bs_log.specs.History.{step_of, live}
use Rattle.bs_log.specs.Refusal.{entry_of, assumptions_of, has_distinct_variables, denies}
use Rattle.bs_solve_lemmas.specs.Place.{LoggedPlace}
use Rattle.bs_solve_lemmas.specs.Bound.{number}
use Rattle.bs_solve_lemmas.specs.Places.{LoggedTrail, AreWarranted}
use Rattle.bs_solve_lemmas.specs.Learning.{digits}
use Rattle.bs_solve_lemmas.specs.ProofLog.{ProofLog, standing, next_id, with_lemma}

-- the assumptions of the step under way
abbrev pub assumed : ProofLog → Clause
assumed b = assumptions_of b.problem (step_of b.history)

-- the assumptions on the trail
abbrev pub assumption_places : Clause → List LoggedPlace
assumption_places assumptions = map (λ l. record { literal = l; implied = false }) assumptions

-- the proof log has one more lemma under the next id
pub record HasLemma (old new : ProofLog) (id : ℕ) (lemma : Clause) : Type 0 where
  pub hints : List ℕ
  pub proof : new ≡ with_lemma old id lemma hints
  pub next : id ≡ next_id old
  pub grown : live new.problem new.history ≡ live old.problem old.history ++ record { id = id; origin = Learnt; literals = lemma } ∷ []
  pub stands : standing new ≡ standing old ++ lemma ∷ []
  pub entry : entry_of (live new.problem new.history) id ≡ Some (record { id = id; origin = Learnt; literals = lemma })

-- the proof log has one more lemma that does not end the step, the trail is sound for it, and its number has risen
pub record HasLearnt (base : ℕ) (old new : ProofLog) (before after : LoggedTrail) : Type 0 where
  pub id : ℕ
  pub lemma : Clause
  pub logged : HasLemma old new id lemma
  pub open_yet : denies (assumed old) lemma ≡ false
  pub range : HasVariables after.vars lemma
  pub distinct : has_distinct_variables lemma ≡ true
  pub vars : after.vars ≡ before.vars
  pub sound : AreWarranted (standing new) base (assumed new) after.places
  pub low : base ≤ length after.places
  pub front : take base after.places ≡ take base before.places
  pub rises : number (after.vars - base) (drop base (digits before.places)) + 1 ≤ number (after.vars - base) (drop base (digits after.places))

-- the proof log has one more lemma, which denies only assumptions
pub record HasRefuted (old new : ProofLog) (id : ℕ) : Type 0 where
  pub lemma : Clause
  pub logged : HasLemma old new id lemma
  pub ends : denies (assumed old) lemma ≡ true
  pub distinct : has_distinct_variables lemma ≡ true
  pub range : (vars : ℕ) → All (HasVariables vars) (standing old) → HasVariables vars lemma
