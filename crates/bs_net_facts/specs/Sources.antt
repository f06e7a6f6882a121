-- All flip-flops and data inputs of a cycle, and what they force.
use Rattle.std.specs.Prelude.{◌≡◌, ℕ, ◌+◌, ◌<◌, Bool, false, List, [], ◌∷◌, ◌++◌, length, slice_index_or}
use Rattle.bs_net.specs.declared.net.NetId.{NetId}
use Rattle.bs_net.specs.declared.net.Flop.{Flop}
use Rattle.bs_net.specs.Circuit.{Circuit, state_nets, next}
use Rattle.bs_net.specs.Order.{IsChecked}
use Rattle.bs_net_facts.specs.declared.fact.Fact.{Fact}
use Rattle.bs_net_facts.specs.Facts.{Force, IsWayOf, IsReal}

-- some nets with their bits at a cycle
abbrev pub facts_of : List NetId → List Bool → ℕ → List Fact
facts_of [] bits cycle = []
facts_of (n ∷ nets) [] cycle = []
facts_of (n ∷ nets) (b ∷ bits) cycle = record { net = n; cycle = cycle; bit = b } ∷ facts_of nets bits cycle

-- the flip-flops and the data inputs of a trace at a cycle
abbrev pub sources : Circuit → List (List Bool) → List (List Bool) → ℕ → List Fact
sources c states inputs t = facts_of (state_nets c) (slice_index_or states t []) t ++ facts_of c.inputs (slice_index_or inputs t []) t

-- they force each fact of the cycle that is the trace's, and in the next cycle the bit that each flip-flop loads
abbrev pub SourcesForce : Type 0
SourcesForce =
    (c : Circuit) (states inputs : List (List Bool)) (t : ℕ) → IsChecked c → IsWayOf c states inputs → t < length inputs →
    ((f : Fact) → f.cycle ≡ t → IsReal c states inputs f → Force c (length states) (sources c states inputs t) (f ∷ []))
    × ((f : Fact) (k : ℕ) (g : Flop) → f.cycle ≡ t + 1 → k < length c.flops → g ≡ slice_index_or c.flops k g → f.net ≡ g.q →
    f.bit ≡ slice_index_or (next c (slice_index_or states t []) (slice_index_or inputs t [])) k false →
    Force c (length states) (sources c states inputs t) (f ∷ []))
