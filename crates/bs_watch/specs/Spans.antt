-- Variables in a row that are false.
use Rattle.std.specs.Prelude.{◌≡◌, ℕ, ◌+◌, ◌<◌, ◌≤◌, false, length}
use Rattle.bs_clause.specs.Literal.{Literal}
use Rattle.bs_watch.specs.declared.false_span.FalseSpan.{FalseSpan}
use Rattle.bs_watch.specs.Places.{TrailState, IsLiteralAt}
use Rattle.bs_watch.specs.Watch.{WatchState, IsWatch}

-- the literal that makes a variable false
abbrev pub negative : ℕ → Literal
negative v = record { variable = v; positive = false }

-- each variable of the span is false by one of its places
pub record IsSpan (t : TrailState) (s : FalseSpan) : Type 0 where
  pub low : 1 ≤ s.first
  pub order : s.first ≤ s.past
  pub high : s.past ≤ t.vars + 1
  pub within : s.places ≤ length t.places
  pub lost : (v : ℕ) → s.first ≤ v → v < s.past → (k : ℕ) × (k < s.places) × IsLiteralAt t.places k (negative v)

-- the span without a variable
abbrev pub no_span : FalseSpan → FalseSpan
no_span s = record { first = s.first; past = s.first; places = 0 }

-- what holds of every watch and its span
pub record IsSpanned (w : WatchState) (capacity : ℕ) (s : FalseSpan) : Type 0 where
  pub is : IsWatch w capacity
  pub span : IsSpan w.trail s
