-- The transition relation of a circuit as clauses, with the signature of its state.
use Rattle.std.specs.Prelude.{ℕ, ◌+◌, ◌-◌, ◌==◌, Bool, true, false, not, List, [], ◌∷◌, ◌++◌, length, map, filter, if◌then◌else◌, slice_index_or, sum_by}
use Rattle.std.specs.List.{list_any, range_with_len, flat_map}
use Rattle.bs_clause.specs.Literal.{Clause, negation, has_literal}
use Rattle.bs_clause.specs.Resolvent.{once}
use Rattle.bs_net.specs.declared.net.NetId.{NetId}
use Rattle.bs_net.specs.declared.net.Gate.{Gate}
use Rattle.bs_net.specs.declared.net.Flop.{Flop}
use Rattle.bs_net.specs.declared.net.Mode.{Mode}
use Rattle.bs_net.specs.declared.net.Mode.TheVariants.{Plain, Enable, Clear}
use Rattle.bs_net.specs.Circuit.{Circuit, is_zero_net}
use Rattle.bs_encode.specs.Tables.{lit, gate_clauses, same_clauses, either_clauses, unless_clauses, odd_clauses, helpers_of}

-- ---- variables: the nets, the helpers of long xor gates, the next state, and for each item its helpers and its own

abbrev pub net_var : NetId → ℕ
net_var n = n.0 + 1

abbrev pub gate_helpers : Gate → ℕ
gate_helpers g = helpers_of g.kind (length g.ins)

-- the variables of an item: its helpers, and then its own
abbrev pub item_helpers : List ℕ → ℕ
item_helpers item = length item - 2

abbrev pub first_helper : Circuit → ℕ
first_helper c = c.nets + 1

abbrev pub first_next : Circuit → ℕ
first_next c = first_helper c + sum_by gate_helpers c.gates

abbrev pub first_item : Circuit → ℕ
first_item c = first_next c + length c.flops

-- the variables of the items themselves, where the first item's helpers begin at v
abbrev pub item_vars : ℕ → List (List ℕ) → List ℕ
item_vars v [] = []
item_vars v (item ∷ items) = (v + item_helpers item) ∷ item_vars (v + item_helpers item + 1) items

-- the variables that show the state
abbrev pub state_vars : Circuit → List ℕ
state_vars c = map (λ f. net_var f.q) c.flops

-- the members of a list at these places
abbrev pub chosen : List ℕ → List ℕ → List ℕ
chosen from places = map (λ i. slice_index_or from i 0) places

-- how many variables there are
abbrev pub variables : Circuit → List (List ℕ) → ℕ
variables c items =
    c.nets + sum_by gate_helpers c.gates + length c.flops + sum_by (λ item. item_helpers item + 1) items

-- ---- the clauses, as the tables give them

-- the clauses of the gates, whose helpers begin at h
abbrev pub gates_clauses : ℕ → List Gate → List Clause
gates_clauses h [] = []
gates_clauses h (g ∷ gs) =
    gate_clauses g.kind h (net_var g.out) (map net_var g.ins) ++ gates_clauses (h + gate_helpers g) gs

-- the units of a net: its constant's value, and 0 on a zero net
abbrev pub unit_clauses : Circuit → ℕ → List Clause
unit_clauses c n =
    map (λ k. lit (n + 1) k.value ∷ []) (filter (λ k. k.net.0 == n) c.constants)
    ++ (if is_zero_net c n then (lit (n + 1) false ∷ []) ∷ [] else [])

-- n is the bit that a mode loads of d and q
abbrev pub mode_clauses : Mode → ℕ → NetId → NetId → List Clause
mode_clauses Plain n d q = same_clauses true n (net_var d)
mode_clauses (Enable e) n d q = either_clauses n (net_var e) (net_var d) (net_var q)
mode_clauses (Clear r) n d q = unless_clauses n (net_var r) (net_var d)

-- n is the bit that a flip-flop loads
abbrev pub load_clauses : ℕ → Flop → List Clause
load_clauses n f = mode_clauses f.mode n f.d f.q

-- the clauses of the flip-flops, whose next variables begin at n
abbrev pub next_clauses : ℕ → List Flop → List Clause
next_clauses n [] = []
next_clauses n (f ∷ fs) = load_clauses n f ++ next_clauses (n + 1) fs

-- the clauses of the items over the state's variables, where the first item's helpers begin at v
abbrev pub items_clauses : List ℕ → ℕ → List (List ℕ) → List Clause
items_clauses states v [] = []
items_clauses states v (item ∷ items) =
    odd_clauses true v (v + item_helpers item) (chosen states item) ++ items_clauses states (v + item_helpers item + 1) items

-- the clauses of the gates, the units and the flip-flops
abbrev pub cycle_clauses : Circuit → List Clause
cycle_clauses c =
    gates_clauses (first_helper c) c.gates
    ++ (flat_map (unit_clauses c) (range_with_len 0 c.nets)
    ++ next_clauses (first_next c) c.flops)

-- and those of the items behind them
abbrev pub table_clauses : Circuit → List (List ℕ) → List Clause
table_clauses c items =
    gates_clauses (first_helper c) c.gates
    ++ (flat_map (unit_clauses c) (range_with_len 0 c.nets)
    ++ (next_clauses (first_next c) c.flops ++ items_clauses (state_vars c) (first_item c) items))

-- ---- with each literal once, and without tautologies

-- whether a literal and its negation stand in the clause
abbrev pub is_tautology : Clause → Bool
is_tautology c = list_any (λ l. has_literal c (negation l)) c

abbrev pub tidied : List Clause → List Clause
tidied clauses = map once (filter (λ c. not (is_tautology c)) clauses)

-- the transition relation: clause number i, from 1, has the id i
abbrev pub transition_clauses : Circuit → List (List ℕ) → List Clause
transition_clauses c items = tidied (table_clauses c items)
