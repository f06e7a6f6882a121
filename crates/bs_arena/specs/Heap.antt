-- A heap of variables by activity, and where each of them stands in it.
use Rattle.std.specs.Prelude.{◌≡◌, ◌≢◌, ◌⊎◌, ℕ, ◌+◌, ◌<◌, ◌≤◌, ◌^◌, ◌/◌, Bool, true, false, List, map, length, Option, Some, None, is_some, count_by, slice_index_or}

-- where a variable stands
abbrev pub place_of : List (Option ℕ) → ℕ → Option ℕ
place_of positions v = slice_index_or positions v None

-- the variable in a place
abbrev pub at_place : List ℕ → ℕ → ℕ
at_place heap p = slice_index_or heap p 0

-- which variables stand in the heap
abbrev pub members : List (Option ℕ) → List Bool
members positions = map is_some positions

-- each variable stands where it is said to, and each place is that of its variable
pub record IsIndexed (heap : List ℕ) (positions : List (Option ℕ)) : Type 0 where
  pub stands : (v p : ℕ) → place_of positions v ≡ Some p → (p < length heap) × (at_place heap p ≡ v)
  pub placed : (p : ℕ) → p < length heap → place_of positions (at_place heap p) ≡ Some p
  pub counted : count_by (λ b. b) (members positions) ≡ length heap

-- the same variables in other places
pub record IsRearranged (heap after : List ℕ) (positions moved : List (Option ℕ)) : Type 0 where
  pub fits : IsIndexed after moved
  pub same : members moved ≡ members positions
  pub long : length after ≡ length heap

-- ---- the order by activity

-- the activity of the variable in a place
abbrev pub key : List ℕ → List ℕ → ℕ → ℕ
key heap activities p = slice_index_or activities (at_place heap p) 0

-- one place is above another one
abbrev pub IsChild : ℕ → ℕ → Type 0
IsChild p c = (c ≡ p + p + 1) ⊎ (c ≡ p + p + 2)

-- no variable is more active than the one above it
pub record IsSorted (heap activities : List ℕ) : Type 0 where
  pub each : (p c : ℕ) → IsChild p c → c < length heap → key heap activities c ≤ key heap activities p

-- but for the one in a place, which may be
pub record IsSortedBut (heap activities : List ℕ) (at : ℕ) : Type 0 where
  pub others : (p c : ℕ) → IsChild p c → c < length heap → c ≢ at → key heap activities c ≤ key heap activities p
  pub around : (p c : ℕ) → IsChild p at → IsChild at c → c < length heap → key heap activities c ≤ key heap activities p

-- but for those below a place, which may be
pub record IsSortedAbove (heap activities : List ℕ) (at : ℕ) : Type 0 where
  pub others : (p c : ℕ) → IsChild p c → c < length heap → p ≢ at → key heap activities c ≤ key heap activities p
  pub around : (p c : ℕ) → IsChild p at → IsChild at c → c < length heap → key heap activities c ≤ key heap activities p

-- whether it may be more active than the one above it
abbrev pub IsRising : List ℕ → List ℕ → ℕ → Bool → Type 0
IsRising heap activities at true = (p : ℕ) → IsChild p at → key heap activities p ≤ key heap activities at
IsRising heap activities at false = (p : ℕ) → IsChild p at → key heap activities at ≤ key heap activities p

-- none below a place is more active than this one
pub record IsBestChild (heap activities : List ℕ) (at d : ℕ) : Type 0 where
  pub each : (c : ℕ) → IsChild at c → c < length heap → key heap activities c ≤ key heap activities d

-- the most active one below a place, if it is more active
abbrev pub IsChildAbove : List ℕ → List ℕ → ℕ → Option ℕ → Type 0
IsChildAbove heap activities at (Some d) = IsChild at d × (d < length heap) × (key heap activities at ≤ key heap activities d) × IsBestChild heap activities at d
IsChildAbove heap activities at None = IsBestChild heap activities at at

-- but for a variable, wherever it stands
pub record IsSortedButOf (heap activities : List ℕ) (positions : List (Option ℕ)) (v : ℕ) : Type 0 where
  pub out : place_of positions v ≡ None → IsSorted heap activities
  pub in_place : (p : ℕ) → place_of positions v ≡ Some p → IsSortedBut heap activities p

-- another variable stands first, and the one that stood last is gone from there
pub record HasLostFirst (old new : List ℕ) : Type 0 where
  pub shorter : length new + 1 ≡ length old
  pub others : (p : ℕ) → 1 ≤ p → p < length new → at_place new p ≡ at_place old p

-- no variable of the heap is more active
pub record IsMostActive (positions : List (Option ℕ)) (activities : List ℕ) (first : ℕ) : Type 0 where
  pub each : (v p : ℕ) → place_of positions v ≡ Some p → slice_index_or activities v 0 ≤ slice_index_or activities first 0

-- the activity of one variable is greater, or the same
pub record IsRaised (old new : List ℕ) (v : ℕ) : Type 0 where
  pub long : length new ≡ length old
  pub more : slice_index_or old v 0 ≤ slice_index_or new v 0
  pub others : (u : ℕ) → u ≢ v → slice_index_or new u 0 ≡ slice_index_or old u 0

-- each activity is a 2^30th
pub record AreScaled (old new : List ℕ) : Type 0 where
  pub long : length new ≡ length old
  pub each : (v : ℕ) → slice_index_or new v 0 ≡ slice_index_or old v 0 / 1073741824

-- what holds of every order
pub record IsOrder (heap : List ℕ) (positions : List (Option ℕ)) (activities : List ℕ) (capacity : ℕ) : Type 0 where
  pub fits : IsIndexed heap positions
  pub some : 1 ≤ length positions
  pub small : length positions ≤ 2 ^ 30
  pub zero_is_out : place_of positions 0 ≡ None
  pub scored : length activities ≡ length positions
  pub room : length positions < capacity
  pub sorted : IsSorted heap activities
