-- What stays of a text where memory runs out while more is appended.
use Rattle.std.specs.Prelude.{◌≡◌, ℕ, List, take, length}

-- the text begins with what it was
abbrev pub Begins : List ℕ → List ℕ → Type 0
Begins old new = take (length old) new ≡ old
