-- What is kept of a trace's moments.
use Rattle.std.specs.Prelude.{◌≡◌, ℕ, ◌<◌, Bool, false, List, [], length, slice_index_or}
use Rattle.bs_net.specs.declared.net.Flop.{Flop}
use Rattle.bs_net.specs.Circuit.{Circuit, Fits, bit_at}
use Rattle.bs_net.specs.Netlist.{Checked, circuit}
use Rattle.bs_net.specs.Order.{IsChecked}
use Rattle.bs_sim.specs.declared.mark.Mark.{Mark}
use Rattle.bs_sim.specs.Marks.{Hold}
use Rattle.bs_net_facts.specs.Facts.{IsWayOf}

-- what a contract sees of the moments: a netlist, and the states and inputs of a trace
pub record Seen : Type 0 where
  pub net : Checked
  pub states : List (List Bool)
  pub inputs : List (List Bool)

-- the valuations of so many moments
pub record RowsFit (c : Circuit) (states inputs : List (List Bool)) (count : ℕ) (rows : List (List Bool)) : Type 0 where
  pub size : length rows ≡ count
  pub each : (i : ℕ) → i < count → Fits c (slice_index_or states i []) (slice_index_or inputs i []) (slice_index_or rows i [])

-- marks that hold in each valuation that fits this state and some input
pub record HoldAtLast (c : Circuit) (state : List Bool) (marks : List Mark) : Type 0 where
  pub size : length marks ≡ c.nets
  pub each : (x v : List Bool) → Fits c state x v → Hold marks v v

-- the flip-flops show a state in both
pub record ShowState (flops : List Flop) (state v w : List Bool) : Type 0 where
  pub each : (i : ℕ) (f : Flop) → i < length flops → f ≡ slice_index_or flops i f →
      (bit_at v f.q.0 ≡ slice_index_or state i false) × (bit_at w f.q.0 ≡ slice_index_or state i false)

-- the bits and the marks are those of the trace
pub record IsSeen (net : Checked) (states inputs : List (List Bool)) (rows : List (List Bool)) (last : List Mark) : Type 0 where
  pub checked : IsChecked (circuit net)
  pub way : IsWayOf (circuit net) states inputs
  pub rows_fit : RowsFit (circuit net) states inputs (length inputs) rows
  pub last_holds : HoldAtLast (circuit net) (slice_index_or states (length inputs) []) last
