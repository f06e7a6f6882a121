-- A list of names, each with its place as its number.
use Rattle.std.specs.Prelude.{ℕ, List, [], ◌∷◌, ◌++◌, if◌then◌else◌, Option, position}
use Rattle.std.specs.List.{list_any}
use Rattle.std.specs.Str.{bytes_eq}
use Rattle.bs_net.specs.declared.net.NetId.{NetId}

-- the net with a number
abbrev pub net : ℕ → NetId
net n = record { 0 = n }

-- the number of a name: the first place where it stands
abbrev pub number_of : List (List ℕ) → List ℕ → Option ℕ
number_of names key = position (bytes_eq key) names

-- the names after one is added: a name that is there stays at its place, and a new one goes last
abbrev pub with_key : List (List ℕ) → List ℕ → List (List ℕ)
with_key names key = if list_any (bytes_eq key) names then names else names ++ key ∷ []
