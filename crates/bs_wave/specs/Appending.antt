-- What the functions that write a wave promise each other.
use Rattle.std.specs.Prelude.{◌≡◌, ℕ, zero, suc, Bool, true, not, List, [], ◌∷◌, take, length, Option, Some, None, if◌then◌else◌}
use Rattle.bs_wave.specs.declared.value.Value.{Value}
use Rattle.bs_wave.specs.WaveText.{same_value, value_line}

-- the text begins with what it was
abbrev pub Begins : List ℕ → List ℕ → Type 0
Begins old new = take (length old) new ≡ old

-- whether a value is another than before
abbrev pub is_new : Option Value → Value → Bool
is_new None v = true
is_new (Some u) v = not (same_value u v)

-- the line of a net's value, where it is another than before
abbrev pub change_line : Option Value → ℕ → Value → List (List ℕ)
change_line before net v = if is_new before v then value_line net v ∷ [] else []

-- the values before the moment at this place, where these stand before the first
abbrev pub before_at : List Value → List (List Value) → ℕ → List Value
before_at before moments zero = before
before_at before [] (suc k) = before
before_at before (values ∷ moments) (suc k) = before_at values moments k
