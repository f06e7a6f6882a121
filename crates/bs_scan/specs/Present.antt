-- What is known of a state of the chip, and what its register holds there.
use Rattle.std.specs.Prelude.{Bool, List}
use Rattle.bs_scan.specs.declared.seen.Seen.{Seen}
use Rattle.bs_scan.specs.Seen.{Shows}
use Rattle.bs_net.specs.Circuit.{Circuit, Leads}
use Rattle.bs_scan.specs.declared.dump.Dump.{Dump}
use Rattle.bs_scan.specs.Dump.{signatures_of}

-- the signatures stand the last one first, and there is none at reset
pub record Present : Type 0 where
  pub state : Seen
  pub stored : List (List Bool)

-- what is known of the state of a dump, and what the register held there
abbrev pub present_in : Dump → Present
present_in dump = record { state = dump.state; stored = signatures_of dump }

-- under an input a state leads to one that shows p
pub record LeadsInto (c : Circuit) (s x : List Bool) (p : Seen) : Type 0 where
  pub there : List Bool
  pub leads : Leads c s x there
  pub shown : Shows p there
