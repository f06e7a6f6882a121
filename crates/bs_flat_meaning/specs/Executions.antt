-- Executions of a design from reset, and that they are those of its flat parts (docs/DEFINITIONS.md, "Design").
use Rattle.std.specs.Prelude.{◌≡◌, ℕ, ◌+◌, ◌<◌, Bool, List, [], length, map, All, slice_index_or, ◌↔◌}
use Rattle.std.specs.List.{range_with_len}
use Rattle.bs_net.specs.Parts.{PartsArePlaced}
use Rattle.bs_net.specs.Circuit.{Circuit, next, reset_state}
use Rattle.bs_net.specs.Netlist.{circuit_of}
use Rattle.bs_net.specs.Check.{Passes}
use Rattle.bs_flat_meaning.specs.Design.{Design, flops}
use Rattle.bs_flat_meaning.specs.Meaning.{data_inputs, LeadsDesign}
use Rattle.bs_flat_meaning.specs.Flat.{IsDesign, flat_parts}

-- the state at reset
abbrev pub reset_of : Design → List Bool
reset_of d = map (λ f. f.it.reset) (flops d)

-- From reset through the states, of which each leads to the next under the input of its cycle. There is one state more than inputs.
pub record IsDesignExecution (d : Design) (states inputs : List (List Bool)) : Type 0 where
  pub count : length states ≡ length inputs + 1
  pub first : slice_index_or states 0 [] ≡ reset_of d
  pub leads : (i : ℕ) → i < length inputs → LeadsDesign d (slice_index_or states i []) (slice_index_or inputs i []) (slice_index_or states (i + 1) [])

-- the state of a circuit at each cycle under inputs: at reset, and then each the next of the one before
pub record AreStatesAt (c : Circuit) (inputs : List (List Bool)) (state : ℕ → List Bool) : Type 0 where
  pub reset : state 0 ≡ reset_state c
  pub next_is : (i : ℕ) → state (i + 1) ≡ next c (state i) (slice_index_or inputs i [])

-- inputs of a circuit, and its states under them from reset to the end
pub record AreStatesUnder (c : Circuit) (states inputs : List (List Bool)) (state : ℕ → List Bool) : Type 0 where
  pub widths : All (λ x. length x ≡ length c.inputs) inputs
  pub states_are : states ≡ map state (range_with_len 0 (length inputs + 1))

-- The circuit has as many flip-flops and data inputs as the design, and the same state at reset. An execution of the design is one of
-- the circuit, and the other way round.
pub record RunsAs (d : Design) (c : Circuit) : Type 0 where
  pub flops : length c.flops ≡ length (flops d)
  pub inputs : length c.inputs ≡ length (data_inputs d)
  pub reset : reset_state c ≡ reset_of d
  pub executions : (states inputs : List (List Bool)) (state : ℕ → List Bool) → AreStatesAt c inputs state →
      IsDesignExecution d states inputs ↔ AreStatesUnder c states inputs state

-- where the flat parts of a design pass the check, the design runs as they do
abbrev pub FlatKeepsExecutions : Type 0
FlatKeepsExecutions = (d : Design) → IsDesign d → PartsArePlaced (flat_parts d) → Passes (flat_parts d) → RunsAs d (circuit_of (flat_parts d))
