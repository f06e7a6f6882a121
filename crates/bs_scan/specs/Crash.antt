-- What a backtrace is about: recorded runs of a chip, and the dump of one that crashed (docs/DEFINITIONS.md, "Crash").
use Rattle.std.specs.Prelude.{◌≡◌, ◌≤◌, List, length, All, slice_get}
use Rattle.bs_scan.specs.Seen.{whole, IsSeen}
use Rattle.bs_net.specs.Circuit.{Circuit}
use Rattle.bs_net.specs.Netlist.{circuit_of}
use Rattle.bs_net.specs.Order.{IsChecked}
use Rattle.bs_net.specs.Parts.{Parts}
use Rattle.bs_stim.specs.declared.limits.TheConstants.{MAX_RUNS, MAX_CYCLES}
use Rattle.bs_stim.specs.Runs.{Stimulus, inputs_of}
use Rattle.bs_scan.specs.declared.dump.Dump.{Dump}
use Rattle.bs_scan.specs.Choice.{Chosen, depth_of, IsDepth}
use Rattle.bs_scan.specs.Dump.{signatures_of, IsDump}
use Rattle.bs_scan.specs.Moments.{Run, Moment, state_of, run_of}
use Rattle.bs_scan.specs.Signature.{stored_at}

-- the chip as a machine, what its signature is taken of, and the runs recorded of it
pub record Recording : Type 0 where
  pub circuit : Circuit
  pub choice : Chosen
  pub runs : List Run

-- the same of what files tell
abbrev pub recording_of : Parts → Chosen → Stimulus → Recording
recording_of raw choice runs = record { circuit = circuit_of raw; choice = choice; runs = inputs_of runs }

-- the netlist has passed its check, the register keeps one signature or two, the signature and each input line have the netlist's
-- widths, and the runs are not too many or too long
pub record IsRecording (r : Recording) : Type 0 where
  pub checked : IsChecked r.circuit
  pub kept : IsDepth (depth_of r.choice)
  pub states : r.choice.width ≡ length r.circuit.flops
  pub inputs : All (λ run. All (λ input. length input ≡ length r.circuit.inputs) run) r.runs
  pub few_runs : length r.runs ≤ MAX_RUNS
  pub few_cycles : All (λ run. length run ≤ MAX_CYCLES) r.runs

-- the dump of a moment: its state, and the signatures that the register holds there, as many as it holds
abbrev pub dump_at : Recording → Moment → Dump
dump_at r m =
    record {
      state = whole (state_of r.circuit r.runs m);
      stored = slice_get (stored_at r.circuit r.choice (run_of r.runs m.run) m.cycle) 0;
      older = slice_get (stored_at r.circuit r.choice (run_of r.runs m.run) m.cycle) 1;
      depth = depth_of r.choice;
    }

-- a recording, and the dump of the crashed chip
pub record Crash : Type 0 where
  pub circuit : Circuit
  pub choice : Chosen
  pub runs : List Run
  pub dump : Dump

abbrev pub crash_of : Recording → Dump → Crash
crash_of r dump = record { circuit = r.circuit; choice = r.choice; runs = r.runs; dump = dump }

-- the dump fits the chip: it is of a register that keeps as many signatures, and has a place for each flip-flop, and a bit for each
-- item in each signature
pub record DumpFits (c : Circuit) (choice : Chosen) (dump : Dump) : Type 0 where
  pub sound : IsDump dump
  pub depth : dump.depth ≡ depth_of choice
  pub seen : IsSeen dump.state
  pub state : length dump.state.bits ≡ length c.flops
  pub signatures : All (λ t. length t ≡ length choice.items) (signatures_of dump)

-- the netlist has passed its check, each input line has a bit for each data input, and the dump fits
pub record IsCrash (crash : Crash) : Type 0 where
  pub checked : IsChecked crash.circuit
  pub inputs : All (λ run. All (λ input. length input ≡ length crash.circuit.inputs) run) crash.runs
  pub fits : DumpFits crash.circuit crash.choice crash.dump
