-- The items of a proposal: parities of flip-flops that drew the same item.
use Rattle.std.specs.Prelude.{ℕ, ◌==◌, nat_le, nat_lt, Bool, List, [], ◌∷◌, length, map, filter, if◌then◌else◌}
use Rattle.std.specs.List.{list_any, range_with_len}
use Rattle.bs_inspect_signature.specs.Deck.{hand_of}

-- whether an item is one of these
abbrev pub has_item : List ℕ → ℕ → Bool
has_item items item = list_any (λ i. i == item) items

-- the flip-flops that drew an item, in the netlist's order
abbrev pub members : (width count item : ℕ) → List ℕ
members width count item = filter (λ f. has_item (hand_of count f) item) (range_with_len 0 width)

-- whether some flip-flop drew it
abbrev pub is_drawn : List ℕ → Bool
is_drawn members = nat_lt 0 (length members)

-- the parities of so many items, without those that no flip-flop drew
abbrev pub drawn_items : (width count : ℕ) → List (List ℕ)
drawn_items width count = filter is_drawn (map (members width count) (range_with_len 0 count))

-- one flip-flop by itself
abbrev pub single : ℕ → List ℕ
single flop = flop ∷ []

-- the items of a proposal of so many: each flip-flop by itself where there are no more flip-flops
abbrev pub mixed_items : (width count : ℕ) → List (List ℕ)
mixed_items width count = if nat_le width count then map single (range_with_len 0 width) else drawn_items width count
