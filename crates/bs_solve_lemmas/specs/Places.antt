-- The trail with its reasons: the literals that are true, the oldest first.
use Rattle.std.specs.Prelude.{◌≡◌, ℕ, ◌<◌, ◌≤◌, true, false, List, map, take, length, Some, Contains, slice_get}
use Rattle.bs_clause.specs.Literal.{Literal, Clause}
use Rattle.bs_solve_lemmas.specs.Place.{LoggedPlace}
use Rattle.bs_watch.specs.Trail.{IsOpenOn, Implies, IsQuiet}

-- the places that are taken, over variables 1 to vars
pub record LoggedTrail : Type 0 where
  pub vars : ℕ
  pub places : List LoggedPlace

-- the literals that are true
abbrev pub logged_literals : List LoggedPlace → List Literal
logged_literals places = map (λ p. p.literal) places

-- its variable is among those of the trail, and neither it nor its negation is true
pub record IsLoggedUnassigned (s : LoggedTrail) (l : Literal) : Type 0 where
  pub in_range : l.variable ≤ s.vars
  pub unassigned : IsOpenOn (logged_literals s.places) l

-- ---- what a trail is worth: clauses, the length of its first level, and the assumptions that stand there

-- A clause of the list implies an implied literal. On the first level the others are assumptions; above it they are decisions,
-- and when one was made no clause was false or unit.
pub record IsWarranted (clauses : List Clause) (base : ℕ) (assumptions : List Literal) (earlier : List LoggedPlace) (p : LoggedPlace) : Type 0 where
  pub unassigned : IsOpenOn (logged_literals earlier) p.literal
  pub implied : p.implied ≡ true → (c : Clause) × Contains clauses c × Implies (logged_literals earlier) c p.literal
  pub assumed : p.implied ≡ false → length earlier < base → Contains assumptions p.literal
  pub quiet : p.implied ≡ false → base ≤ length earlier → IsQuiet (logged_literals earlier) clauses

-- so is each place, over those before it
pub record AreWarranted (clauses : List Clause) (base : ℕ) (assumptions : List Literal) (places : List LoggedPlace) : Type 0 where
  pub placed : (k : ℕ) (p : LoggedPlace) → slice_get places k ≡ Some p → IsWarranted clauses base assumptions (take k places) p
