-- A netlist as a machine: its values, what fits it, and its next state.
use Rattle.std.specs.Prelude.{◌≡◌, ℕ, ◌<◌, ◌%◌, Bool, true, false, not, ◌&&◌, ◌||◌, ◌==◌, List, [], ◌∷◌, ◌++◌, length, map, find, count_by}
use Rattle.std.specs.Prelude.{slice_index_or, All, IsTrue, unwrap_or, zero, suc, if◌then◌else◌}
use Rattle.std.specs.Bool.{beq}
use Rattle.std.specs.List.{list_all, list_any, range_with_len}
use Rattle.bs_bits.specs.Bits.{bits_eq}
use Rattle.bs_net.specs.declared.net.NetId.{NetId}
use Rattle.bs_net.specs.declared.net.Gate.{Gate}
use Rattle.bs_net.specs.declared.net.Flop.{Flop}
use Rattle.bs_net.specs.declared.net.Mode.{Mode}
use Rattle.bs_net.specs.declared.net.Mode.TheVariants.{Plain, Enable, Clear}
use Rattle.bs_net.specs.declared.net.Const.{Const}
use Rattle.bs_net.specs.Gate.{gate_value}

-- ---- the circuit

-- a netlist: its nets are numbered from 0, and its data inputs, flip-flops, gates and constants stand in order
pub record Circuit : Type 0 where
  pub nets : ℕ
  pub clock : NetId
  pub inputs : List NetId
  pub flops : List Flop
  pub gates : List Gate
  pub constants : List Const

-- the number of a net
abbrev pub number : NetId → ℕ
number n = n.0

-- the nets that show the state, in the order of the flip-flops
abbrev pub state_nets : Circuit → List NetId
state_nets c = map (λ f. f.q) c.flops

-- every net that something drives, once for each driver
abbrev pub drivers : Circuit → List ℕ
drivers c =
    map number c.inputs ++ (map number (state_nets c) ++ (map (λ k. k.net.0) c.constants ++ map (λ g. g.out.0) c.gates))

-- whether a net shows 0 in every settled valuation: the clock does, and every net without a driver
abbrev pub is_zero_net : Circuit → ℕ → Bool
is_zero_net c n = (n == c.clock.0) || not (list_any (λ m. n == m) (drivers c))

-- ---- valuations

-- the bit that a valuation gives to a net
abbrev pub bit_at : List Bool → ℕ → Bool
bit_at v n = slice_index_or v n false

-- the bits that a valuation shows on some nets
abbrev pub shown : List Bool → List NetId → List Bool
shown v nets = map (λ n. bit_at v n.0) nets

-- a gate's output shows the value of its inputs
abbrev pub IsSettled : List Bool → Gate → Type 0
IsSettled v g = bit_at v g.out.0 ≡ gate_value g.kind (shown v g.ins)

-- v shows the state s, the input x, the constants, and 0 on the zero nets
pub record Shows (c : Circuit) (s x v : List Bool) : Type 0 where
  pub every_net : length v ≡ c.nets
  pub input : shown v c.inputs ≡ x
  pub state : shown v (state_nets c) ≡ s
  pub constants : All (λ k. bit_at v k.net.0 ≡ k.value) c.constants
  pub zeros : (n : ℕ) → n < c.nets → IsTrue (is_zero_net c n) → bit_at v n ≡ false

-- the valuation v fits the state s and the input x
pub record Fits (c : Circuit) (s x v : List Bool) : Type 0 where
  pub sources : Shows c s x v
  pub open sources use *
  pub gates : All (IsSettled v) c.gates

-- each net that shows 0 in every settled valuation shows it
abbrev pub IsZeroed : Circuit → List Bool → Type 0
IsZeroed c v = (length v ≡ c.nets) × ((n : ℕ) → n < c.nets → IsTrue (is_zero_net c n) → bit_at v n ≡ false)

-- ---- the next state

-- the state at reset
abbrev pub reset_state : Circuit → List Bool
reset_state c = map (λ f. f.reset) c.flops

-- the bit that a mode loads under a valuation, of the bit of d and the bit of q: the bit of d, where an enable shows 0 the bit of q,
-- and 0 where a clear shows 1
abbrev pub mode_loads : List Bool → Mode → Bool → Bool → Bool
mode_loads v Plain d q = d
mode_loads v (Enable e) d q = if bit_at v e.0 then d else q
mode_loads v (Clear r) d q = if bit_at v r.0 then false else d

-- the bit that a flip-flop loads at a clock edge
abbrev pub loaded : List Bool → Flop → Bool
loaded v f = mode_loads v f.mode (bit_at v f.d.0) (bit_at v f.q.0)

-- the bits that the flip-flops load
abbrev pub next_state : Circuit → List Bool → List Bool
next_state c v = map (loaded v) c.flops

-- s leads to p under x
abbrev pub Leads : Circuit → List Bool → List Bool → List Bool → Type 0
Leads c s x p = (v : List Bool) × Fits c s x v × (next_state c v ≡ p)

-- exactly one valuation fits
abbrev pub OneFits : Circuit → List Bool → List Bool → Type 0
OneFits c s x = (v : List Bool) × Fits c s x v × ((w : List Bool) → Fits c s x w → w ≡ v)

-- every list of n bits, ascending
unfoldable pub all_bits : ℕ → List (List Bool)
all_bits zero = [] ∷ []
all_bits (suc n) = map (λ bs. false ∷ bs) (all_bits n) ++ map (λ bs. true ∷ bs) (all_bits n)

-- `Fits` as a test
abbrev pub fits : Circuit → List Bool → List Bool → List Bool → Bool
fits c s x v =
    (length v == c.nets)
    && bits_eq (shown v c.inputs) x
    && bits_eq (shown v (state_nets c)) s
    && list_all (λ k. beq (bit_at v k.net.0) k.value) c.constants
    && list_all (λ n. not (is_zero_net c n && bit_at v n)) (range_with_len 0 c.nets)
    && list_all (λ g. beq (bit_at v g.out.0) (gate_value g.kind (shown v g.ins))) c.gates

-- the valuation that fits
unfoldable pub settled : Circuit → List Bool → List Bool → List Bool
settled c s x = unwrap_or (find (fits c s x) (all_bits c.nets)) []

-- the next state
unfoldable pub next : Circuit → List Bool → List Bool → List Bool
next c s x = next_state c (settled c s x)
