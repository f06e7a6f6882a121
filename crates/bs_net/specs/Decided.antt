-- Whether a netlist passes the check, as a test of its parts: what a definition says where no order of gates is at hand.
use Rattle.std.specs.Prelude.{◌≡◌, ◌↔◌, ℕ, zero, suc, Bool, true, not, ◌&&◌, ◌==◌, List, [], ◌∷◌, length, map, is_none, nat_lt}
use Rattle.std.specs.List.{list_all, list_any, flat_map, range_with_len}
use Rattle.bs_net.specs.declared.net.Gate.{Gate}
use Rattle.bs_net.specs.Parts.{Parts}
use Rattle.bs_net.specs.Loops.{is_in}
use Rattle.bs_net.specs.Order.{gates_in}
use Rattle.bs_net.specs.Check.{too_many, is_shared, is_undriven, mixed_clock, HasOrder, Passes}

-- ---- an order of the gates

-- every list of so many numbers below k
unfoldable pub all_lists : ℕ → ℕ → List (List ℕ)
all_lists k zero = [] ∷ []
all_lists k (suc count) = flat_map (λ i. map (λ is. i ∷ is) (all_lists k count)) (range_with_len 0 k)

-- whether no gate of the list reads a net that itself or a later gate of the list drives
abbrev pub is_levelled : List Gate → Bool
is_levelled [] = true
is_levelled (g ∷ gs) = list_all (λ n. list_all (λ h. not (h.out.0 == n.0)) (g ∷ gs)) g.ins && is_levelled gs

-- whether every gate is named, and in the order each reads no output of itself or a later one
abbrev pub is_order : List Gate → List ℕ → Bool
is_order gates order = list_all (λ i. is_in i order) (range_with_len 0 (length gates)) && is_levelled (gates_in order gates)

-- whether some list of as many numbers as there are gates is an order of them
unfoldable pub has_order : List Gate → Bool
has_order gates = list_any (is_order gates) (all_lists (length gates) (length gates))

-- ---- the check

-- whether no number below the count passes a test
abbrev pub none_passes : (ℕ → Bool) → ℕ → Bool
none_passes test count = list_all (λ k. not (test k)) (range_with_len 0 count)

-- whether none of the refusals is there
unfoldable pub passes : Parts → Bool
passes r =
    is_none (too_many r)
    && none_passes (is_shared r) (length r.names)
    && none_passes (is_undriven r) (length r.names)
    && has_order r.gates
    && nat_lt 0 (length r.flops)
    && is_none (mixed_clock r)

-- ---- the tests decide what the check says

abbrev pub OrdersAreDecided : Type 0
OrdersAreDecided = (gates : List Gate) → (has_order gates ≡ true) ↔ HasOrder gates

abbrev pub ChecksAreDecided : Type 0
ChecksAreDecided = (r : Parts) → (passes r ≡ true) ↔ Passes r
