-- A text cut at a byte.
use Rattle.std.specs.Prelude.{ℕ, ◌==◌, List, [], ◌∷◌, Option, Some, None, if◌then◌else◌}
use Rattle.std.specs.Borrow.{Bor}
use Rattle.std.specs.Option.{option_map, option_map_or}

-- what stands before a byte and what stands behind it
pub record Halves : Type 0 where
  pub before : List ℕ
  pub behind : List ℕ

abbrev pub onto : ℕ → Halves → Halves
onto b h = record { before = b ∷ h.before; behind = h.behind }

-- a text cut at the first such byte, if there is one
abbrev pub first_split : ℕ → List ℕ → Option Halves
first_split byte [] = None
first_split byte (b ∷ bs) = if b == byte then Some record { before = []; behind = bs } else option_map (onto b) (first_split byte bs)

abbrev pub or_here : ℕ → ℕ → List ℕ → Option Halves → Option Halves
or_here byte b bs None = if b == byte then Some record { before = []; behind = bs } else None
or_here byte b bs (Some h) = Some (onto b h)

-- a text cut at the last such byte, if there is one
abbrev pub last_split : ℕ → List ℕ → Option Halves
last_split byte [] = None
last_split byte (b ∷ bs) = or_here byte b bs (last_split byte bs)

-- two parts of a text in the code
abbrev pub halves_in : Option (Bor (List ℕ) × Bor (List ℕ)) → Option Halves
halves_in None = None
halves_in (Some p) = Some record { before = p.0.now; behind = p.1.now }

-- what stands before the first such byte, or all
abbrev pub before : ℕ → List ℕ → List ℕ
before byte text = option_map_or (λ (h : Halves). h.before) (first_split byte text) text

-- what stands behind it, or all
abbrev pub behind : ℕ → List ℕ → List ℕ
behind byte text = option_map_or (λ (h : Halves). h.behind) (first_split byte text) text
