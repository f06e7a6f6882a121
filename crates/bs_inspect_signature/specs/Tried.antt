-- How many items the proposals have that are tried.
use Rattle.std.specs.Prelude.{ℕ, max, nat_le, nat_lt, List, [], ◌∷◌, ◌++◌, filter, if◌then◌else◌}
use Rattle.bs_scan.specs.declared.choice.TheConstants.{MAX_ITEMS}

-- numbers of items, each at most half as great again as the one before
abbrev pub numbers : List ℕ
numbers = 16 ∷ 24 ∷ 32 ∷ 48 ∷ 64 ∷ 96 ∷ 128 ∷ 192 ∷ 256 ∷ []

-- as many items as there are flip-flops, where a signature may have so many
abbrev pub last_tried : ℕ → List ℕ
last_tried width = if nat_le width MAX_ITEMS then max width 1 ∷ [] else []

-- the numbers that are tried, the least first: those below the number of flip-flops, and this one
abbrev pub tried : ℕ → List ℕ
tried width = filter (λ n. nat_lt n width) numbers ++ last_tried width
