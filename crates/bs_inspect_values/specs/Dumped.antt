-- The states of a dump out of the values of a simulator.
use Rattle.std.specs.Prelude.{ℕ, Bool, List, Option, Some, None, Result}
use Rattle.std.specs.Option.{option_map}
use Rattle.bs_net.specs.Parts.{Parts}
use Rattle.bs_scan.specs.Choice.{Chosen, depth_of}
use Rattle.bs_inspect_notes.specs.declared.name.Subject.TheVariants.{Flops}
use Rattle.bs_inspect_report.specs.Keys.{flop_keys}
use Rattle.bs_vcd.specs.declared.cycles.When.{When}
use Rattle.bs_vcd.specs.declared.cycles.MarkedStates.{MarkedStates}
use Rattle.bs_outside.specs.declared.file.File.TheVariants as files
use Rattle.bs_outside.specs.Plan.{Reason, Plan, ◌>>=◌, end, fetched, read_as}
use Rattle.bs_top_files.specs.Entry.{netlist_of, signature_of}
use Rattle.bs_top_files.specs.Causes.{Case, with_reason}
use Rattle.bs_inspect_values.specs.declared.dumping.Taking.{Taking as CodeTaking}
use Rattle.bs_inspect_values.specs.declared.dumping.DumpFiles.{DumpFiles as CodeDumpFiles}
use Rattle.bs_inspect_values.specs.declared.ready.Dumped.{Dumped as CodeDumped}
use Rattle.bs_inspect_values.specs.declared.ready.Dumped.TheVariants as D
use Rattle.bs_inspect_values.specs.Saying.{taken_in, vcd_reason}
use Rattle.bs_inspect_values.specs.Simulated.{clock_key, names_read}

-- the states of a cycle and of so many before it, where the flip-flops with these keys have those names; bits of the last may be unknown,
-- where that is asked for
abbrev pub states_read : (path : List ℕ) (keys names : List (List ℕ)) (scope : Option (List ℕ)) (clock : List ℕ) → When → ℕ → (partial : Bool) →
    (text : List ℕ) → Result MarkedStates (Reason Case)
states_read path keys names scope clock at back partial text =
    with_reason (vcd_reason Flops path text keys names scope clock) (taken_in partial text scope clock names at back)

-- the file of values with the clock and the scope, the moment, and whether bits may be unknown there
pub record Taking : Type 0 where
  pub vcd : List ℕ
  pub clock : List ℕ
  pub scope : Option (List ℕ)
  pub at : When
  pub back : ℕ
  pub partial : Bool

abbrev pub taking_in : CodeTaking → Taking
taking_in t =
    record { vcd = t.vcd.now; clock = t.clock.now; scope = option_map (λ s. s.now) t.scope; at = t.at; back = t.back; partial = t.partial }

abbrev pub states_of : (keys names : List (List ℕ)) → Taking → Plan Case MarkedStates
states_of keys names t = do
  text ← fetched files.Vcd t.vcd
  read_as files.Vcd (states_read t.vcd keys names t.scope t.clock t.at t.back t.partial text)

-- once the file of names is fetched
abbrev pub states_step : (path : List ℕ) → List (List ℕ) → (text : List ℕ) → Taking → Plan Case MarkedStates
states_step path keys text t = read_as files.Map (names_read Flops path keys text) >>= λ names. states_of keys names t

-- a file of names, where there is one, and the values
abbrev pub taken_of : List (List ℕ) → Option (List ℕ) → Taking → Plan Case MarkedStates
taken_of keys None t = states_of keys keys t
taken_of keys (Some file) t = fetched files.Map file >>= λ text. states_step file keys text t

-- what a signature is taken of, where one is asked for, and the last state behind as many as that tells of, with its marks
pub record Dumped : Type 0 where
  pub choice : Option Chosen
  pub taken : MarkedStates

abbrev pub dumped_in : CodeDumped → Dumped
dumped_in (D.Plain t) = record { choice = None; taken = t.taken }
dumped_in (D.Whole t) = record { choice = Some t.choice; taken = t.taken }

-- how many earlier states a dump tells of
abbrev pub back_of : Option Chosen → ℕ
back_of None = 0
back_of (Some choice) = depth_of choice

-- the files of a dump, the clock where one is asked for, the scope, the moment, and whether bits may be unknown there
pub record DumpFiles : Type 0 where
  pub netlist : List ℕ
  pub vcd : List ℕ
  pub at : When
  pub clock : Option (List ℕ)
  pub scope : Option (List ℕ)
  pub names : Option (List ℕ)
  pub signature : Option (List ℕ)
  pub partial : Bool

abbrev pub files_in : CodeDumpFiles → DumpFiles
files_in t = record {
  netlist = t.netlist.now;
  vcd = t.vcd.now;
  at = t.at;
  clock = option_map (λ s. s.now) t.clock;
  scope = option_map (λ s. s.now) t.scope;
  names = option_map (λ s. s.now) t.names;
  signature = option_map (λ s. s.now) t.signature;
  partial = t.partial;
}

-- the clock that is asked for, or that of the netlist
abbrev pub clock_or : Parts → Option (List ℕ) → List ℕ
clock_or raw None = clock_key raw
clock_or raw (Some clock) = clock

abbrev pub taking_of : DumpFiles → Parts → ℕ → Taking
taking_of f raw back =
    record { vcd = f.vcd; clock = clock_or raw f.clock; scope = f.scope; at = f.at; back = back; partial = f.partial }

-- behind the signature
abbrev pub dump_step : DumpFiles → Parts → Option Chosen → Plan Case Dumped
dump_step f raw choice =
    taken_of (flop_keys raw) f.names (taking_of f raw (back_of choice)) >>= λ taken. end record { choice = choice; taken = taken }

-- behind the netlist: the signature, where there is one
abbrev pub chosen_step : DumpFiles → Parts → Option (List ℕ) → Plan Case Dumped
chosen_step f raw None = dump_step f raw None
chosen_step f raw (Some file) = signature_of raw file >>= λ choice. dump_step f raw (Some choice)

-- the netlist, the signature and the file of names, where there are any, and the values
abbrev pub dumped_of : DumpFiles → Plan Case Dumped
dumped_of f = netlist_of f.netlist >>= λ raw. chosen_step f raw f.signature
