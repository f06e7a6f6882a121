-- A number for each net, by the gate that drives it: the net whose value it shows through `buf` and `assign` alone, and its level.
use Rattle.std.specs.Prelude.{◌≡◌, ◌≢◌, ℕ, ◌+◌, ◌<◌, List, [], ◌∷◌, length, map, max, fold, slice_index_or, slice_set, All}
use Rattle.std.specs.List.{range_with_len}
use Rattle.bs_net.specs.declared.net.NetId.{NetId}
use Rattle.bs_net.specs.declared.net.Gate.{Gate}
use Rattle.bs_net.specs.declared.gate.Kind.{Kind}
use Rattle.bs_net.specs.declared.gate.Kind.TheVariants.{Buf}
use Rattle.bs_net.specs.Parts.{Parts}
use Rattle.bs_inspect_netlist.specs.declared.mark.Measure.{Measure}
use Rattle.bs_inspect_netlist.specs.declared.mark.Measure.TheVariants.{Source, Level}

-- the number of a net in a table
abbrev pub mark_at : List ℕ → ℕ → ℕ
mark_at table n = slice_index_or table n 0

-- the greatest number of some nets
abbrev pub greatest_on : List ℕ → List NetId → ℕ
greatest_on table nets = fold (λ m n. max m (mark_at table n.0)) 0 nets

-- the number of a net that no gate drives: it is its own source, and stands at level 0
abbrev pub start_mark : Measure → ℕ → ℕ
start_mark Source n = n
start_mark Level n = 0

-- the number of the first of some nets
abbrev pub first_mark : List ℕ → ℕ → List NetId → ℕ
first_mark table own [] = own
first_mark table own (n ∷ ns) = mark_at table n.0

-- the source of a gate's output net: that of its input where it is a `Buf`, and else the net itself
abbrev pub source_mark : List ℕ → ℕ → List NetId → Kind → ℕ
source_mark table own ins Buf = first_mark table own ins
source_mark table own ins _ = own

-- the number of a gate's output net by those of its inputs; its level is one more than the greatest of theirs
abbrev pub gate_mark : Measure → List ℕ → Gate → ℕ
gate_mark Source table g = source_mark table g.out.0 g.ins g.kind
gate_mark Level table g = greatest_on table g.ins + 1

-- the table has the right number for each net of the netlist
pub record AreMarks (measure : Measure) (r : Parts) (table : List ℕ) : Type 0 where
  pub every_net : length table ≡ length r.names
  pub driven : All (λ g. mark_at table g.out.0 ≡ gate_mark measure table g) r.gates
  pub others : (n : ℕ) → n < length r.names → All (λ g. g.out.0 ≢ n) r.gates → mark_at table n ≡ start_mark measure n

-- ---- what inner functions promise

-- the table where no gate has been looked at
abbrev pub starts : Measure → ℕ → List ℕ
starts measure count = map (start_mark measure) (range_with_len 0 count)

-- the table after the numbers of these gates' outputs, one after another
abbrev pub marked : Measure → List Gate → List ℕ → List ℕ
marked measure [] table = table
marked measure (g ∷ gs) table = marked measure gs (slice_set table g.out.0 (gate_mark measure table g))
