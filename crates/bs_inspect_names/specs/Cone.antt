-- The flip-flops and data inputs that the nets of a name are computed from through gates (docs/FORMATS.md, "Texts of `backspace_inspect`").
use Rattle.std.specs.Prelude.{◌≡◌, ℕ, ◌<◌, Bool, true, false, List, [], ◌∷◌, ◌++◌, codes, length, map, slice_index_or, slice_set, All, if◌then◌else◌}
use Rattle.std.specs.List.{flat_map, range_with_len}
use Rattle.bs_bits.specs.Lines.{line}
use Rattle.bs_net.specs.declared.net.NetId.{NetId}
use Rattle.bs_net.specs.declared.net.Gate.{Gate}
use Rattle.bs_net.specs.declared.net.Flop.{Flop}
use Rattle.bs_net.specs.Netlist.{circuit_of}
use Rattle.bs_net.specs.Parts.{Parts, key_at}
use Rattle.bs_net_names.specs.Keys.{key_parts}
use Rattle.bs_net_names.specs.Naming.{is_named}

-- whether a net is marked
abbrev pub is_marked : List Bool → ℕ → Bool
is_marked table n = slice_index_or table n false

-- a set of nets has those with a name, and with a gate's output what the gate reads
pub record HasInputs (r : Parts) (name : List ℕ) (has : ℕ → Bool) : Type 0 where
  pub named : (n : ℕ) → n < length r.names → is_named (key_parts (key_at r n)) name ≡ true → has n ≡ true
  pub inputs : All (λ g. has g.out.0 ≡ true → All (λ n. has n.0 ≡ true) g.ins) r.gates

-- the nets that are marked are the least such set
pub record IsCone (r : Parts) (name : List ℕ) (table : List Bool) : Type 0 where
  pub closed : HasInputs r name (is_marked table)
  pub least : (has : ℕ → Bool) → HasInputs r name has → (n : ℕ) → is_marked table n ≡ true → has n ≡ true

-- the key of a net behind a space, where it is marked
abbrev pub marked_key : Parts → List Bool → ℕ → List ℕ
marked_key r table n = if is_marked table n then codes " " ++ key_at r n else []

-- the keys of those of these flip-flops that are marked
abbrev pub flops_piece : Parts → List Bool → List Flop → List ℕ
flops_piece r table flops = flat_map (λ f. marked_key r table f.q.0) flops

-- the same of data inputs
abbrev pub inputs_piece : Parts → List Bool → List NetId → List ℕ
inputs_piece r table inputs = flat_map (λ n. marked_key r table n.0) inputs

-- the line of these flip-flops and data inputs, as far as they are marked
abbrev pub from_line : Parts → List Bool → List Flop → List NetId → List ℕ
from_line r table flops inputs = line (codes "from" ++ (flops_piece r table flops ++ inputs_piece r table inputs))

-- the line of a name whose nets show no flip-flop: what they are computed from, in the order of a state's and of an input's bits
abbrev pub cone_line : Parts → List Bool → List ℕ
cone_line r table = from_line r table r.flops (circuit_of r).inputs

-- ---- what inner functions promise

-- the nets with a name are marked
abbrev pub named_nets : Parts → List ℕ → ℕ → List Bool
named_nets r name count = map (λ n. is_named (key_parts (key_at r n)) name) (range_with_len 0 count)

-- the table with these nets marked too
abbrev pub marks : List Bool → List NetId → List Bool
marks table [] = table
marks table (n ∷ ns) = marks (slice_set table n.0 true) ns

-- the table with a gate's inputs marked too, where its output is
abbrev pub behind_gate : Gate → List Bool → List Bool
behind_gate g table = if is_marked table g.out.0 then marks table g.ins else table

-- the same of each of these gates, the last one first
abbrev pub behind : List Gate → List Bool → List Bool
behind [] table = table
behind (g ∷ gs) table = behind_gate g (behind gs table)
