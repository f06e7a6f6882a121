-- When a netlist has a meaning: what the check asks for.
use Rattle.std.specs.Prelude.{◌≡◌, ◌≢◌, ℕ, ◌<◌, ◌≤◌, List, [], ◌∷◌, length, map, slice_index_or, All, nat_eq, Bool}
use Rattle.std.specs.List.{range_with_len, IsDistinct}
use Rattle.std.specs.List.Sorted.{IsPermutation}
use Rattle.bs_net.specs.declared.limits.TheConstants.{MAX_NETS, MAX_FLOPS, MAX_INPUTS, MAX_TERMINALS}
use Rattle.bs_net.specs.declared.net.Gate.{Gate}
use Rattle.bs_net.specs.declared.gate.Kind.TheVariants.{And}
use Rattle.bs_net.specs.Circuit.{Circuit, drivers, OneFits}

-- no gate of the list reads a net that itself or a later gate of the list drives
abbrev pub IsLevelled : List Gate → Type 0
IsLevelled [] = Unit {0}
IsLevelled (g ∷ gs) = All (λ n. All (λ h. h.out.0 ≢ n.0) (g ∷ gs)) g.ins × IsLevelled gs

-- a gate with no meaning, which stands past the end of a list
abbrev pub no_gate : Gate
no_gate = record { kind = And; out = record { 0 = 0 }; ins = [] }

-- the gates with these numbers
abbrev pub gates_in : List ℕ → List Gate → List Gate
gates_in order gates = map (λ i. slice_index_or gates i no_gate) order

-- the order names every gate once, and in it each gate reads only nets driven by no itself-or-later gate
pub record IsOrder (gates : List Gate) (order : List ℕ) : Type 0 where
  pub each_once : IsPermutation (range_with_len 0 (length gates)) order
  pub earlier : IsLevelled (gates_in order gates)

-- the clock is a net, no net has two drivers, the clock has none beside its port, and the gates can be put in order
pub record IsChecked (c : Circuit) : Type 0 where
  pub clock_placed : c.clock.0 < c.nets
  pub single_driver : IsDistinct nat_eq (c.clock.0 ∷ drivers c)
  pub in_range : All (λ n. n < c.nets) (drivers c)
  pub acyclic : (order : List ℕ) × IsOrder c.gates order

-- the sizes that the check admits (docs/DEFINITIONS.md, "Limits"); the clock is one of at most `MAX_INPUTS` input port bits and no
-- data input
pub record IsBounded (c : Circuit) : Type 0 where
  pub few_nets : c.nets ≤ MAX_NETS
  pub some_flop : 0 < length c.flops
  pub few_flops : length c.flops ≤ MAX_FLOPS
  pub few_inputs : length c.inputs < MAX_INPUTS
  pub narrow : All (λ g. length g.ins ≤ MAX_TERMINALS) c.gates

-- in a netlist with single drivers and an order of its gates exactly one valuation fits each state and input
abbrev pub ExactlyOneFits : Type 0
ExactlyOneFits =
    (c : Circuit) (s x : List Bool) → IsChecked c → length s ≡ length c.flops → length x ≡ length c.inputs → OneFits c s x
