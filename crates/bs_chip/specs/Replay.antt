-- What the functions that replay runs promise each other.
use Rattle.std.specs.Prelude.{◌≡◌, ℕ, List, Bool, slice_get}
use Rattle.bs_net.specs.Circuit.{Circuit}
use Rattle.bs_scan.specs.Seen.{whole}
use Rattle.bs_scan.specs.declared.dump.Dump.{Dump}
use Rattle.bs_scan.specs.Choice.{depth_of}
use Rattle.bs_scan.specs.Register.{Register}
use Rattle.bs_scan.specs.Moments.{Run, state_at, is_listed}

-- a machine in a state, and the runs whose inputs drive it
pub record Played : Type 0 where
  pub circuit : Circuit
  pub runs : List Run
  pub state : List Bool

-- the same in another state
abbrev pub in_state : Played → List Bool → Played
in_state p s = record { circuit = p.circuit; runs = p.runs; state = s }

-- the machine and the runs are the same
pub record IsSameChip (old new : Played) : Type 0 where
  pub circuit : new.circuit ≡ old.circuit
  pub runs : new.runs ≡ old.runs

-- the dump of a state and of what a register holds
abbrev pub dump_holding : Register → List Bool → Dump
dump_holding register state =
    record {
      state = whole state;
      stored = slice_get register.stored 0;
      older = slice_get register.stored 1;
      depth = depth_of register.choice;
    }

-- whether the state of a run at a cycle is listed
abbrev pub lists : Circuit → Run → List (List Bool) → ℕ → Bool
lists c run states cycle = is_listed states (state_at c run cycle)
