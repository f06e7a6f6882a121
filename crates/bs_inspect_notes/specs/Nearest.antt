-- Which of some names are nearest to a name. A path before a name counts as none apart.
use Rattle.std.specs.Prelude.{ℕ, ◌-◌, ◌==◌, ◌&&◌, ◌||◌, min, max, nat_lt, not, Bool, true, false, List, [], ◌∷◌, length, drop, fold, slice_index, if◌then◌else◌}
use Rattle.std.specs.List.{filter}
use Rattle.std.specs.Str.{bytes_eq}
use Rattle.bs_net_names.specs.Nearest.{apart}
use Rattle.bs_net_names.specs.Keys.{key_parts}
use Rattle.bs_net_names.specs.Naming.{plain, same_bit}
use Rattle.bs_inspect_view.specs.Drawn.{is_nameless}

-- the names of a path are parted by `.`, or by `/`
abbrev pub is_separator : ℕ → Bool
is_separator b = (b == 46) || (b == 47)

-- a text ends with a separator and this name behind it
abbrev pub ends_behind : List ℕ → List ℕ → Bool
ends_behind whole name =
    if nat_lt (length name) (length whole)
    then is_separator (slice_index whole (length whole - length name - 1)) && bytes_eq (drop (length whole - length name) whole) name
    else false

-- how far two names are apart, where neither is the end of the other's path
abbrev pub bases_apart : List ℕ → List ℕ → ℕ
bases_apart name other = if ends_behind name other || ends_behind other name then 0 else apart name other

-- a distance, and at least 1 where a bit is another
abbrev pub by_bits : Bool → ℕ → ℕ
by_bits true d = d
by_bits false d = max 1 d

-- how far two names are apart as RTL writes them: not at all where one is that of the other's vector, `a[3]` for `[0]\a[3]` too, or
-- `a[0]` and `[0]\a`; else by what stands before the number of a bit; a name without a number stands for all bits of its vector
unfoldable pub far : List ℕ → List ℕ → ℕ
far name other =
    if bytes_eq (plain name) (plain (key_parts other).base) then 0
    else by_bits (same_bit (key_parts name).bit (key_parts other).bit) (bases_apart (plain (key_parts name).base) (plain (key_parts other).base))

-- the least distance of these names
abbrev pub least : List ℕ → List (List ℕ) → ℕ
least name [] = 0
least name (n ∷ ns) = fold (λ d m. min d (far name m)) (far name n) ns

-- a name that is kept, or not
abbrev pub kept : Bool → List ℕ → List (List ℕ)
kept true name = name ∷ []
kept false name = []

-- ---- which names are offered

-- a constant's key, or a name that synthesis made
abbrev pub is_made : List ℕ → Bool
is_made key = is_nameless (key_parts key).base

-- a name that synthesis made is offered for another such name alone
abbrev pub is_offered : (name other : List ℕ) → Bool
is_offered name other = is_made name || not (is_made other)

abbrev pub offered : List ℕ → List (List ℕ) → List (List ℕ)
offered name names = filter (is_offered name) names

-- ---- the nearest

-- the names that are so far from this one
abbrev pub at_distance : List ℕ → ℕ → List (List ℕ) → List (List ℕ)
at_distance name d names = filter (λ n. far name n == d) names

-- those of these names that are as near as any
abbrev pub nearest : List ℕ → List (List ℕ) → List (List ℕ)
nearest name names = at_distance name (least name names) names
