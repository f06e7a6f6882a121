-- Which two literals of a clause are best watched.
use Rattle.std.specs.Prelude.{◌≡◌, ◌⊎◌, ℕ, ◌<◌, ◌≤◌, List, Some, length, slice_get, swap}
use Rattle.bs_clause.specs.Literal.{Literal, Clause}
use Rattle.bs_watch.specs.Trail.{IsFalseOn}
use Rattle.bs_watch.specs.Places.{Place, IsOnLevel, literals_of}

-- where the first literal is false, the second one is too, and became so on no higher level
abbrev pub IsNoLower : List Place → Literal → Literal → Type 0
IsNoLower places l m =
    IsFalseOn (literals_of places) l →
    IsFalseOn (literals_of places) m ×
    ((i j : ℕ) → IsOnLevel places l i → IsOnLevel places m j → j ≤ i)

-- the first literal is no lower than any, and the second one no lower than any but the first
pub record AreHighest (places : List Place) (c : Clause) : Type 0 where
  pub first : (k : ℕ) (l m : Literal) → slice_get c 0 ≡ Some l → slice_get c k ≡ Some m →
      IsNoLower places l m
  pub second : (k : ℕ) (l m : Literal) → 1 ≤ k → slice_get c 1 ≡ Some l →
      slice_get c k ≡ Some m → IsNoLower places l m

-- the literal at the place is no lower than those from one place on to before another
pub record IsHighestOf (places : List Place) (c : Clause) (start past best : ℕ) : Type 0 where
  pub low : start ≤ best
  pub high : best < past
  pub highest : (k : ℕ) (l m : Literal) → start ≤ k → k < past → slice_get c best ≡ Some l →
      slice_get c k ≡ Some m → IsNoLower places l m

-- one of two places, whose literal is no lower than both
pub record IsHigherOf (places : List Place) (c : Clause) (a b best : ℕ) : Type 0 where
  pub one : (best ≡ a) ⊎ (best ≡ b)
  pub no_lower : (k : ℕ) (l m : Literal) → (k ≡ a) ⊎ (k ≡ b) → slice_get c best ≡ Some l →
      slice_get c k ≡ Some m → IsNoLower places l m

-- the highest literal from a place on has come to that place
pub record IsLifted (places : List Place) (old new : Clause) (to : ℕ) : Type 0 where
  pub best : ℕ
  pub highest : IsHighestOf places old to (length old) best
  pub exchanged : new ≡ swap old to best
