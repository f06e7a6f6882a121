-- Where conflict analysis stops.
use Rattle.std.specs.Prelude.{◌≡◌, ◌≢◌, ◌⊎◌, ℕ, ◌∷◌, All, ◌<◌, ◌≤◌, true, List, [], take, length, Option, Some, None, is_some, Contains, slice_get}
use Rattle.bs_clause.specs.Literal.{Literal, Clause, negation}
use Rattle.bs_arena.specs.Arena.{Held, literals_at}
use Rattle.bs_watch.specs.Places.{Place, literals_of}
use Rattle.bs_watch.specs.Trail.{IsFalseOn}

-- no clause implied the literal at this place
pub record IsDecisionAt (places : List Place) (at : ℕ) : Type 0 where
  pub place : Place
  pub there : slice_get places at ≡ Some place
  pub decision : place.reason ≡ None

-- and a clause implied each later one
pub record IsLastDecision (places : List Place) (at : ℕ) : Type 0 where
  pub decided : IsDecisionAt places at
  pub implied : (k : ℕ) (p : Place) → at < k → slice_get places k ≡ Some p → is_some p.reason ≡ true

-- the clause denies the literal at a place of the level that starts here, and its other literals were false before
-- that level; the negated literal comes first in it
pub record IsPoint (places : List Place) (start : ℕ) (c : Clause) : Type 0 where
  pub at : ℕ
  pub place : Place
  pub there : slice_get places at ≡ Some place
  pub low : start ≤ at
  pub first : slice_get c 0 ≡ Some (negation place.literal)
  pub others : All (λ m. (m ≡ negation place.literal) ⊎ IsFalseOn (literals_of (take start places)) m) c

-- the literal is true, and no clause implied it
pub record IsReasonless (places : List Place) (l : Literal) : Type 0 where
  pub at : ℕ
  pub place : Place
  pub there : slice_get places at ≡ Some place
  pub same : place.literal ≡ l
  pub free : place.reason ≡ None

-- ---- the first unique implication point

-- the clause denies the literal at this place of the trail
pub record DeniesAt (clauses : List Held) (places : List Place) (clause at : ℕ) : Type 0 where
  pub place : Place
  pub there : slice_get places at ≡ Some place
  pub denied : Contains (literals_at clauses clause) (negation place.literal)

-- the reason of the later place denies the literal at the earlier one
pub record ImpliedWith (clauses : List Held) (places : List Place) (earlier later : ℕ) : Type 0 where
  pub place : Place
  pub there : slice_get places later ≡ Some place
  pub reason : ℕ
  pub is : place.reason ≡ Some reason
  pub denies : DeniesAt clauses places reason earlier

-- a way along the implications: each place's literal had a part in the next one's, and the last one's in the conflict
abbrev pub LeadsTo : List Held → List Place → ℕ → List ℕ → Type 0
LeadsTo clauses places conflict [] = Unit {0}
LeadsTo clauses places conflict (at ∷ []) = DeniesAt clauses places conflict at
LeadsTo clauses places conflict (at ∷ later ∷ more) =
    ImpliedWith clauses places at later × LeadsTo clauses places conflict (later ∷ more)

-- a way from the level's first place to the conflict that does not pass through this place
pub record Bypasses (clauses : List Held) (places : List Place) (conflict start at : ℕ) : Type 0 where
  pub way : List ℕ
  pub leads : LeadsTo clauses places conflict (start ∷ way)
  pub apart : All (λ k. k ≢ at) (start ∷ way)

-- no later place of the level than the one whose literal the clause denies has a part in each way from the level's
-- first place to the conflict
pub record IsFirstPoint (clauses : List Held) (places : List Place) (conflict start : ℕ) (c : Clause) : Type 0 where
  pub point : IsPoint places start c
  pub bypassed : (k : ℕ) → point.at < k → k < length places → Bypasses clauses places conflict start k

-- ---- what is read of the trail

-- the reason of the literal in the place
abbrev pub IsReasonIn : List Place → ℕ → Option ℕ → Type 0
IsReasonIn places k reason = (p : Place) × (slice_get places k ≡ Some p) × (p.reason ≡ reason)
