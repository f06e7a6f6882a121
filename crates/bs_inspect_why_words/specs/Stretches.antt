-- Facts that stand behind one another and are of one cycle.
use Rattle.std.specs.Prelude.{ℕ, ◌+◌, ◌-◌, ◌==◌, ◌&&◌, ◌||◌, nat_le, not, Bool, List, [], ◌∷◌, length, map, take, drop, slice_index_or, if◌then◌else◌}
use Rattle.std.specs.List.{flat_map, range_with_len}
use Rattle.bs_net_facts.specs.declared.fact.Fact.{Fact}

abbrev pub cycle_at : List Fact → ℕ → ℕ
cycle_at facts i = slice_index_or (map (λ f. f.cycle) facts) i 0

-- whether a stretch begins at a place
abbrev pub is_start : List Fact → ℕ → Bool
is_start facts i = (i == 0) || not (cycle_at facts i == cycle_at facts (i - 1))

abbrev pub start_at : List Fact → ℕ → List ℕ
start_at facts i = if is_start facts i then i ∷ [] else []

-- where stretches begin
abbrev pub starts : List Fact → List ℕ
starts facts = flat_map (start_at facts) (range_with_len 0 (length facts))

-- the facts from a place up to another
abbrev pub cut : ℕ → ℕ → List Fact → List Fact
cut from to facts = if nat_le from to && nat_le to (length facts) then take (to - from) (drop from facts) else []

-- the stretch with a number
abbrev pub stretch_at : List Fact → List ℕ → ℕ → List Fact
stretch_at facts begins k = cut (slice_index_or begins k 0) (slice_index_or begins (k + 1) (length facts)) facts

-- the stretch with a number from the end
abbrev pub stretch_back : List Fact → List ℕ → ℕ → List Fact
stretch_back facts begins j = stretch_at facts begins (length begins - (j + 1))
