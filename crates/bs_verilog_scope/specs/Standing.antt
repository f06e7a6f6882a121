-- Where a name stands in a text.
use Rattle.std.specs.Prelude.{◌≡◌, ◌⊎◌, ◌<◌, ℕ, ◌-◌, ◌==◌, nat_eq, Bool, true, false, not, ◌&&◌, List, length, drop, slice_get, Option, Some, None, if◌then◌else◌}
use Rattle.std.specs.List.{starts_with}
use Rattle.bs_lex.specs.Bytes.{is_of_name}

-- a byte of a name stands there
abbrev pub is_joined : Option ℕ → Bool
is_joined None = false
is_joined (Some b) = is_of_name b

abbrev pub joins_before : List ℕ → ℕ → Bool
joins_before text at = if at == 0 then false else is_joined (slice_get text (at - 1))

-- the name stands there, with no byte of a name before it or behind it
abbrev pub stands_at : List ℕ → List ℕ → ℕ → Bool
stands_at text name at =
    starts_with nat_eq (drop at text) name && (not (joins_before text at) && not (is_joined (slice_get (drop at text) (length name))))

-- the first place that passes, of so many
pub record IsFirstPlace (passes : ℕ → Bool) (count at : ℕ) : Type 0 where
  pub there : at < count
  pub is : passes at ≡ true
  pub none : (k : ℕ) → k < at → passes k ≡ false

-- none of so many places passes
pub record NoneOf (passes : ℕ → Bool) (count : ℕ) : Type 0 where
  pub none : (k : ℕ) → k < count → passes k ≡ false

-- the first place of a text at which a name stands, or its front where it stands nowhere
abbrev pub IsNamePlace : List ℕ → List ℕ → ℕ → Type 0
IsNamePlace text name at =
    IsFirstPlace (stands_at text name) (length text) at ⊎ (NoneOf (stands_at text name) (length text) × (at ≡ 0))
