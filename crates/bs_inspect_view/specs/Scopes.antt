-- The scopes of a waveform, by the paths of names (docs/FORMATS.md, "Texts of `backspace_inspect`").
use Rattle.std.specs.Prelude.{ℕ, ◌==◌, Bool, true, false, List, [], ◌∷◌, ◌++◌, length, codes, Option, Some, None, if◌then◌else◌}
use Rattle.std.specs.List.{flat_map}
use Rattle.std.specs.Str.{bytes_eq}
use Rattle.bs_bits.specs.Lines.{line, onto_first}
use Rattle.bs_net_names.specs.Naming.{plain}
use Rattle.bs_net_names.specs.Splits.{Halves, last_split}

abbrev pub before_of : Option Halves → List ℕ
before_of None = []
before_of (Some h) = h.before

abbrev pub behind_of : List ℕ → Option Halves → List ℕ
behind_of name None = name
behind_of name (Some h) = h.behind

-- the path of a name, as RTL writes it: what stands before its last dot
abbrev pub path_of : List ℕ → List ℕ
path_of name = before_of (last_split 46 (plain name))

-- the name in its scope: what stands behind the last dot
abbrev pub leaf_of : List ℕ → List ℕ
leaf_of name = behind_of (plain name) (last_split 46 (plain name))

-- the parts of a path, between dots
abbrev pub parts_of : List ℕ → List (List ℕ)
parts_of [] = [] ∷ []
parts_of (b ∷ bs) = if b == 46 then [] ∷ parts_of bs else onto_first b (parts_of bs)

-- a part that is empty is shown as `_`
abbrev pub word_of : List ℕ → List ℕ
word_of part = if length part == 0 then codes "_" else part

abbrev pub opening : List ℕ → List ℕ
opening word = line (codes "$scope module " ++ (word ++ codes " $end"))

-- the line that opens the scope of a part, or the one that closes it
abbrev pub scope_piece : Bool → List ℕ → List ℕ
scope_piece true part = opening (word_of part)
scope_piece false part = line (codes "$upscope $end")

-- the lines that open, or close, the scopes of a path
abbrev pub scopes : Bool → List ℕ → List ℕ
scopes opens path = if length path == 0 then [] else flat_map (scope_piece opens) (parts_of path)

-- the lines between a variable on one path and the next one on another
abbrev pub moves : (old new : List ℕ) → List ℕ
moves old new = if bytes_eq old new then [] else scopes false old ++ scopes true new
