-- The law of flattening: the flat parts keep the meaning of the design.
use Rattle.std.specs.Prelude.{◌≡◌, Bool, List, length, ◌↔◌}
use Rattle.bs_net.specs.Parts.{PartsArePlaced}
use Rattle.bs_net.specs.Circuit.{next}
use Rattle.bs_net.specs.Netlist.{circuit_of}
use Rattle.bs_net.specs.Check.{Passes}
use Rattle.bs_flat_meaning.specs.Design.{Design, flops}
use Rattle.bs_flat_meaning.specs.Meaning.{data_inputs, OneFitsDesign, LeadsDesign}
use Rattle.bs_flat_meaning.specs.Flat.{IsDesign, flat_parts}

-- Where the flat parts pass the check, exactly one valuation fits the design for each state and input, and the design's next
-- state is that of the flat netlist.
pub record FlatMeans (d : Design) (s x : List Bool) : Type 0 where
  pub one : OneFitsDesign d s x
  pub next : (p : List Bool) → LeadsDesign d s x p ↔ (p ≡ next (circuit_of (flat_parts d)) s x)

abbrev pub FlatKeepsMeaning : Type 0
FlatKeepsMeaning =
    (d : Design) (s x : List Bool) → IsDesign d → PartsArePlaced (flat_parts d) → Passes (flat_parts d)
    → length s ≡ length (flops d) → length x ≡ length (data_inputs d) → FlatMeans d s x
