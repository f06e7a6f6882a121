-- Levels of nets, and the gates by level.
use Rattle.std.specs.Prelude.{◌≡◌, ℕ, ◌<◌, ◌+◌, ◌-◌, ◌*◌, ◌/◌, ◌%◌, ◌==◌, if◌then◌else◌, max, List, [], ◌∷◌, length, map, slice_set, slice_index_or, All}
use Rattle.std.specs.List.{range_with_len}
use Rattle.std.specs.List.Sorted.{IsPermutation}
use Rattle.bs_net.specs.declared.net.NetId.{NetId}
use Rattle.bs_net.specs.declared.net.Gate.{Gate}
use Rattle.bs_net.specs.declared.gate.Kind.{Kind}
use Rattle.bs_net.specs.declared.gate.Kind.TheVariants.{And, Nand, Or, Nor, Xor, Xnor, Buf, Not}
use Rattle.bs_net.specs.Order.{no_gate}

-- the level of a net
abbrev pub level_at : List ℕ → ℕ → ℕ
level_at levels n = slice_index_or levels n 0

-- the highest level of some nets
abbrev pub highest : List ℕ → List NetId → ℕ
highest levels [] = 0
highest levels (n ∷ ns) = max (level_at levels n.0) (highest levels ns)

-- the turn of a gate: gates of two inputs have the turn of their kind, and the others have one
abbrev pub pair_turn : Kind → ℕ
pair_turn And = 0
pair_turn Nand = 1
pair_turn Or = 2
pair_turn Nor = 3
pair_turn Xor = 4
pair_turn Xnor = 5
pair_turn Buf = 6
pair_turn Not = 6

abbrev pub turn_of : Gate → ℕ
turn_of g = if length g.ins == 2 then pair_turn g.kind else 6

-- levels go round eight turns, four levels each: the lowest level above another that has a turn
abbrev pub level_above : ℕ → ℕ → ℕ
level_above turn top = max (top + 1) (((top + 1) / 4 + (turn + 8 - (top + 1) / 4 % 8) % 8) * 4)

-- the level of a gate's output: the lowest above the highest of its inputs that has the gate's turn
abbrev pub level_for : List ℕ → Gate → ℕ
level_for levels g = level_above (turn_of g) (highest levels g.ins)

-- the levels of the nets
abbrev pub raised : List Gate → List ℕ → List ℕ
raised [] levels = levels
raised (g ∷ gs) levels = raised gs (slice_set levels g.out.0 (level_for levels g))

-- each gate's output stands above each of its inputs
abbrev pub AreRaised : List ℕ → List Gate → Type 0
AreRaised levels gates = All (λ g. All (λ n. level_at levels n.0 < level_at levels g.out.0) g.ins) gates

-- the number of a gate in its key, and its level
abbrev pub number_in : ℕ → ℕ
number_in key = key % 4294967296

abbrev pub level_in : ℕ → ℕ
level_in key = key / 68719476736

-- the key tells a gate's number and its level; between them it has what else gates are sorted by
pub record IsKey (levels : List ℕ) (gates : List Gate) (key : ℕ) : Type 0 where
  pub placed : number_in key < length gates
  pub level : level_in key ≡ level_at levels (slice_index_or gates (number_in key) no_gate).out.0

-- one key for each gate, in any order
pub record AreKeys (levels : List ℕ) (gates : List Gate) (keys : List ℕ) : Type 0 where
  pub each : All (IsKey levels gates) keys
  pub once : IsPermutation (range_with_len 0 (length gates)) (map number_in keys)
