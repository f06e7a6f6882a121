-- Marks on variables, and what conflict analysis does to them.
use Rattle.std.specs.Prelude.{◌≡◌, ◌⊎◌, ℕ, ◌+◌, ◌<◌, Bool, true, false, cond, List, [], ◌∷◌, ◌++◌, length, drop, slice_index_or, slice_set, count_by}
use Rattle.std.specs.Prelude.{All, Contains}
use Rattle.bs_clause.specs.Literal.{Literal, Clause}
use Rattle.bs_log.specs.Refusal.{has_distinct_variables}
use Rattle.bs_watch.specs.Places.{Place, literals_of}

-- the mark of each variable, from 0, and the literals that got a mark since all were cleared
pub record MarkState : Type 0 where
  pub flags : List Bool
  pub touched : List Literal

-- whether the literal's variable has a mark
abbrev pub is_marked : MarkState → Literal → Bool
is_marked s l = slice_index_or s.flags l.variable false

-- how many of the places hold a marked variable
abbrev pub marks_in : MarkState → List Place → ℕ
marks_in s places = count_by (λ p. is_marked s p.literal) places

-- one more mark
abbrev pub added : MarkState → Literal → MarkState
added s l = record { flags = slice_set s.flags l.variable true; touched = s.touched ++ l ∷ [] }

-- the literal's variable has a mark
abbrev pub marked_with : MarkState → Literal → MarkState
marked_with s l = cond (is_marked s l) s (added s l)

-- one more variable, without a mark
abbrev pub widened : MarkState → MarkState
widened s = record { flags = s.flags ++ false ∷ []; touched = s.touched }

-- the literal's variable has no mark
abbrev pub unmarked : MarkState → Literal → MarkState
unmarked s l = record { flags = slice_set s.flags l.variable false; touched = s.touched }

-- so many variables, from 0, and no mark
pub record IsClear (count : ℕ) (s : MarkState) : Type 0 where
  pub length_is : length s.flags ≡ count
  pub none : (v : ℕ) → slice_index_or s.flags v false ≡ false
  pub touched : s.touched ≡ []

-- the marks have a place for each of the clause's variables
abbrev pub AreWithin : MarkState → Clause → Type 0
AreWithin s c = All (λ l. l.variable < length s.flags) c

-- each mark is known by a literal of the list
pub record AreTouched (s : MarkState) : Type 0 where
  pub in_range : All (λ l. l.variable < length s.flags) s.touched
  pub covered : (v : ℕ) → slice_index_or s.flags v false ≡ true → (l : Literal) × Contains s.touched l × (l.variable ≡ v)

-- the clause's variables have marks, and those that had them
pub record HasMarked (old new : MarkState) (c : Clause) : Type 0 where
  pub length_is : length new.flags ≡ length old.flags
  pub kept : (v : ℕ) → slice_index_or old.flags v false ≡ true → slice_index_or new.flags v false ≡ true
  pub stands : All (λ l. is_marked new l ≡ true) c
  pub only : (v : ℕ) → slice_index_or new.flags v false ≡ true →
      (slice_index_or old.flags v false ≡ true) ⊎ ((l : Literal) × Contains c l × Contains new.touched l × (l.variable ≡ v))
  pub touched : (l : Literal) → Contains old.touched l → Contains new.touched l
  pub touched_only : (l : Literal) → Contains new.touched l → Contains old.touched l ⊎ (Contains c l × (is_marked old l ≡ false))

-- a literal's mark is traded for those of a clause
pub record HasTraded (old new : MarkState) (c : Clause) (pivot : Literal) : Type 0 where
  pub middle : MarkState
  pub marked : HasMarked old middle c
  pub pivot_gone : new ≡ unmarked middle pivot

-- the marked literals stand at the clause's end, each variable once, and no mark is left
pub record HasMoved (old new : MarkState) (before after : Clause) : Type 0 where
  pub more : Clause
  pub lits : after ≡ before ++ more
  pub distinct : has_distinct_variables more ≡ true
  pub from_marks : All (λ l. Contains old.touched l × (is_marked old l ≡ true)) more
  pub each : (v : ℕ) → slice_index_or old.flags v false ≡ true → (l : Literal) × Contains more l × (l.variable ≡ v)
  pub clear : IsClear (length old.flags) new

-- how many places from one on have a mark more than before, where the pivot stands in one of them
pub record HasCounted (places : List Place) (start : ℕ) (old new : MarkState) (pivot : Literal) (more : ℕ) : Type 0 where
  pub counted : Contains (literals_of (drop start places)) pivot →
      more + marks_in old (drop start places) ≡ marks_in new (drop start places) + 1

-- without a mark before, and with one more variable after
pub record StaysClear (old new : MarkState) : Type 0 where
  pub clear : (count : ℕ) → IsClear count old → IsClear (count + 1) new
