-- Where conflict analysis stops, and where the trail goes back to.
use Rattle.std.specs.Prelude.{◌≡◌, ℕ, ◌<◌, ◌≤◌, Bool, true, false, ◌||◌, List, take, Some, Contains, slice_get}
use Rattle.std.specs.List.{list_all}
use Rattle.bs_clause.specs.Literal.{Literal, Clause, negation, same_literal, has_literal}
use Rattle.bs_solve_lemmas.specs.Place.{LoggedPlace}
use Rattle.bs_solve_lemmas.specs.Places.{logged_literals}

-- each literal of the clause is this one, or was false when the trail had so many places
abbrev pub is_alone_at : List LoggedPlace → ℕ → Literal → Clause → Bool
is_alone_at places end denied c = list_all (λ m. same_literal denied m || has_literal (logged_literals (take end places)) (negation m)) c

-- no clause implied the literal at this place
pub record IsLoggedDecision (places : List LoggedPlace) (at : ℕ) : Type 0 where
  pub place : LoggedPlace
  pub there : slice_get places at ≡ Some place
  pub decision : place.implied ≡ false

-- a clause implied each literal from this place on
abbrev pub AreImplied : List LoggedPlace → ℕ → Type 0
AreImplied places from' = (k : ℕ) (p : LoggedPlace) → from' ≤ k → slice_get places k ≡ Some p → p.implied ≡ true

-- the clause denies the literal at this place, of the level that starts there, and was false before that level otherwise
pub record IsLoggedPoint (places : List LoggedPlace) (start : ℕ) (c : Clause) (at : ℕ) : Type 0 where
  pub place : LoggedPlace
  pub there : slice_get places at ≡ Some place
  pub low : start ≤ at
  pub denied : Contains c (negation place.literal)
  pub alone : is_alone_at places start (negation place.literal) c ≡ true

-- the literal is true, and no clause implied it
pub record IsLoggedReasonless (places : List LoggedPlace) (l : Literal) : Type 0 where
  pub at : ℕ
  pub place : LoggedPlace
  pub there : slice_get places at ≡ Some place
  pub same : place.literal ≡ l
  pub free : place.implied ≡ false

-- the first decision before which the clause's other literals were false
pub record IsCut (places : List LoggedPlace) (base start : ℕ) (denied : Literal) (c : Clause) (cut : ℕ) : Type 0 where
  pub low : base ≤ cut
  pub high : cut ≤ start
  pub decided : IsLoggedDecision places cut
  pub alone : is_alone_at places cut denied c ≡ true
  pub earlier : (j : ℕ) → base ≤ j → j < cut → IsLoggedDecision places j → is_alone_at places j denied c ≡ false
