-- Executions from reset, and what is reached in a number of cycles (docs/DEFINITIONS.md, "Bounded reach").
use Rattle.std.specs.Prelude.{◌≡◌, ℕ, ◌+◌, ◌<◌, Bool, List, length, map, All}
use Rattle.std.specs.List.{range_with_len}
use Rattle.bs_scan.specs.declared.seen.Seen.{Seen}
use Rattle.bs_scan.specs.Seen.{Shows}
use Rattle.bs_net.specs.Circuit.{Circuit}
use Rattle.bs_scan.specs.Moments.{Run, state_at}

-- so many inputs lead from reset to a state that shows p
pub record ReachedIn (c : Circuit) (cycles : ℕ) (p : Seen) : Type 0 where
  pub inputs : Run
  pub count : length inputs ≡ cycles
  pub widths : All (λ x. length x ≡ length c.inputs) inputs
  pub ends : Shows p (state_at c inputs cycles)

-- p is reached in no fewer cycles
abbrev pub NotBefore : Circuit → ℕ → Seen → Type 0
NotBefore c cycles p = (j : ℕ) → j < cycles → ReachedIn c j p → ⊥

-- under the inputs, one a cycle, the netlist goes from reset through the states, and the last of them shows p
pub record IsExecution (c : Circuit) (cycles : ℕ) (p : Seen) (states : List (List Bool)) (inputs : Run) : Type 0 where
  pub count : length inputs ≡ cycles
  pub widths : All (λ x. length x ≡ length c.inputs) inputs
  pub states_are : states ≡ map (state_at c inputs) (range_with_len 0 (cycles + 1))
  pub ends : Shows p (state_at c inputs cycles)
