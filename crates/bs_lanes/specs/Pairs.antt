-- A gate of two inputs as one formula of all kinds.
use Rattle.std.specs.Prelude.{◌≡◌, ℕ, Bool, not, ◌&&◌, List, ◌∷◌, []}
use Rattle.std.specs.Bool.{beq}
use Rattle.bs_net.specs.declared.gate.Kind.{Kind}
use Rattle.bs_net.specs.Gate.{gate_value}
use Rattle.bs_lanes.specs.declared.pairs.PairTable.{PairTable}
use Rattle.bs_stim.specs.Packing.{bit_in}
use Rattle.bs_lanes.specs.Planes.{IsPlane}

-- one bit or the other, and not both
abbrev pub differ : Bool → Bool → Bool
differ x y = not (beq x y)

-- the formula: the table says whether the conjunction counts, whether the difference counts, and whether the whole is inverted
abbrev pub mixed : PairTable → Bool → Bool → Bool
mixed t x y = differ (differ ((x && y) && t.both) (differ x y && t.one)) t.inverted

-- the table is that of a kind
pub record IsTable (kind : Kind) (t : PairTable) : Type 0 where
  pub value : (x y : Bool) → mixed t x y ≡ gate_value kind (x ∷ y ∷ [])

-- a plane has in each lane what a table gives for the bits of two planes, where the table's parts are planes
abbrev pub IsMixed : ℕ → List ℕ → List ℕ → List ℕ → List ℕ → List ℕ → List ℕ → Type 0
IsMixed wide a b both one inverted plane =
    IsPlane wide plane
    (λ r. differ (differ ((bit_in a r && bit_in b r) && bit_in both r) (differ (bit_in a r) (bit_in b r) && bit_in one r)) (bit_in inverted r))
