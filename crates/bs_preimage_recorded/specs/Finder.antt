-- What looks for recorded predecessors.
use Rattle.std.specs.Prelude.{◌≡◌, ℕ, ◌<◌, ◌≤◌, Bool, List, length, Option, Some, None, IfSome}
use Rattle.bs_scan.specs.declared.seen.Seen.{Seen}
use Rattle.bs_scan.specs.Seen.{Shows}
use Rattle.bs_net.specs.Circuit.{Circuit, next}
use Rattle.bs_encode.specs.Assuming.{AreWide}
use Rattle.bs_scan.specs.Crash.{Recording}
use Rattle.bs_scan.specs.Moments.{Run, moment, IsMoment, run_of, state_at}
use Rattle.bs_chip.specs.Hashes.{hash_of}
use Rattle.bs_preimage_recorded.specs.declared.forward.PresentHashes.{PresentHashes}
use Rattle.bs_preimage_recorded.specs.Forward.{Ahead, IsAim}
use Rattle.bs_preimage.specs.Probe.{Prober}

-- a recording, and the present with a stored signature whose predecessors are looked for
pub record Seeker : Type 0 where
  pub recording : Recording
  pub present : Seen
  pub stored : List Bool

-- where a recording's states lead, and what those are looked up by that lead to a present
pub record IsAimed (r : Recording) (present : List Bool) (aim : PresentHashes) (f : Ahead) : Type 0 where
  pub circuit : f.circuit ≡ r.circuit
  pub runs : f.runs ≡ r.runs
  pub aim_is : IsAim f present aim

-- the parts of a finder are of the recording's chip
pub record IsFinder (r : Recording) (p : Prober) (forward : Option Ahead) (present : Seen) (aim : PresentHashes) (stored : List Bool) (hash : ℕ) :
    Type 0 where
  pub prober : p ≡ record { circuit = r.circuit; choice = r.choice }
  pub forward_is : IfSome forward (IsAimed r present.bits aim)
  pub hash_is : hash ≡ hash_of stored

-- under no input of the netlist's width does a state lead to one that shows a present
pub record LeadsPast (c : Circuit) (s : List Bool) (present : Seen) : Type 0 where
  pub each : (x : List Bool) → length x ≡ length c.inputs → Shows present (next c s x) → ⊥

-- no state of a cycle before this one leads to one that shows a present
pub record NonePassBefore (c : Circuit) (runs : List Run) (present : Seen) (limit : ℕ) : Type 0 where
  pub each : (run cycle : ℕ) → cycle < limit → IsMoment runs (moment run cycle) → LeadsPast c (state_at c (run_of runs run) cycle) present

-- it is known where the state of a moment leads, and that is under no input to a state that shows the present
abbrev pub LeadsAway : Option Ahead → ℕ → ℕ → Seen → Type 0
LeadsAway None run cycle present = ⊥
LeadsAway (Some f) run cycle present = LeadsPast f.circuit (state_at f.circuit (run_of f.runs run) cycle) present

-- no state before a cycle leads to one that shows the present, as far as it is known
abbrev pub StartsBy : Option Ahead → Seen → ℕ → Type 0
StartsBy None present from = from ≡ 0
StartsBy (Some f) present from = NonePassBefore f.circuit f.runs present from

-- what is asked has the recording's widths
pub record IsAsking (r : Recording) (present : Seen) (stored : List Bool) (older : Option (List Bool)) (b : ℕ) : Type 0 where
  pub present_wide : length present.bits ≡ length r.circuit.flops
  pub stored_wide : length stored ≡ length r.choice.items
  pub older_wide : AreWide (length r.choice.items) older
  pub conflicts : 1 ≤ b
