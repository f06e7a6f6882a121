-- The number of a flat net: the flat nets of the paths before, and those that stand before it on its own path.
use Rattle.std.specs.Prelude.{◌≡◌, ℕ, ◌+◌, Bool, List, ◌∷◌, ◌++◌, length, map, filter}
use Rattle.std.specs.List.{flat_map, range_with_len, Contains}
use Rattle.bs_flat_meaning.specs.Design.{Design, Path, PathNet, on, own, paths, path_nets}
use Rattle.bs_flat_meaning.specs.Meaning.{is_same}
use Rattle.bs_flat_meaning.specs.Flat.{IsDesign, home, flat_number}

-- whether a net on a path is a flat net
abbrev pub stays : Design → Path → ℕ → Bool
stays d p n = is_same (home d (on p n)) (on p n)

-- the nets on a path that are flat nets
abbrev pub staying : Design → Path → List ℕ
staying d p = filter (stays d p) (range_with_len 0 (length (own d p).names))

abbrev pub nets_on : Design → Path → List PathNet
nets_on d p = map (on p) (staying d p)

-- a net's number is how many flat nets the paths before that of its home have, and how many stand before its home there
abbrev pub NumbersAreRanks : Type 0
NumbersAreRanks =
    (d : Design) → IsDesign d → (a : PathNet) → Contains (path_nets d) a → (earlier later : List Path) → paths d ≡ earlier ++ (home d a).path ∷ later →
    flat_number d a ≡ length (flat_map (nets_on d) earlier) + length (filter (stays d (home d a).path) (range_with_len 0 (home d a).it))
