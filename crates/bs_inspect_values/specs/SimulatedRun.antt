-- The runs that were simulated, and their names.
use Rattle.std.specs.Prelude.{ℕ, ◌==◌, nat_le, nat_lt, ◌&&◌, Bool, List, [], length, map, take, codes, Option, Some, None, if◌then◌else◌}
use Rattle.std.specs.List.{flat_map, list_any}
use Rattle.bs_stim.specs.declared.limits.TheConstants.{MAX_NAME}
use Rattle.bs_stim.specs.Runs.{Recorded}
use Rattle.bs_stim.specs.StimulusText.{run_text}
use Rattle.bs_net_names.specs.Keys.{key_parts}
use Rattle.bs_net_names.specs.Rtl.{same_name}
use Rattle.bs_net_names.specs.Splits.{Halves, last_split}
use Rattle.bs_vcd.specs.declared.clock_edges.SampledLines.{SampledLines}
use Rattle.bs_vcd.specs.Cycles.{begin_in}
use Rattle.bs_inspect_values.specs.declared.run.SimulatedRun.{SimulatedRun as CodeSimulatedRun}

-- ---- the name of a run

abbrev pub behind_of : List ℕ → Option Halves → List ℕ
behind_of path None = path
behind_of path (Some h) = h.behind

-- the own name of a file: what stands behind the last `/`
abbrev pub leaf_of : List ℕ → List ℕ
leaf_of path = behind_of path (last_split 47 path)

abbrev pub before_of : List ℕ → Option Halves → List ℕ
before_of leaf None = leaf
before_of leaf (Some h) = h.before

-- without what stands from its last point on
abbrev pub stem_of : List ℕ → List ℕ
stem_of leaf = before_of leaf (last_split 46 leaf)

-- a byte that a name may have, or `_`
abbrev pub name_byte : ℕ → ℕ
name_byte b = if nat_le 33 b && nat_le b 126 then b else 95

abbrev pub or_vcd : List ℕ → List ℕ
or_vcd name = if length name == 0 then codes "vcd" else name

-- the name of a run by the path of its file: the file's own name without its ending, as far as the name of a run goes
abbrev pub run_name : List ℕ → List ℕ
run_name path = or_vcd (map name_byte (take MAX_NAME (stem_of (leaf_of path))))

-- ---- runs

-- the run of a file with these inputs
abbrev pub recorded : List ℕ → List (List Bool) → Recorded
recorded path lines = record { name = run_name path; inputs = lines }

-- a run, and the time at which the values begin that it is of
pub record SimulatedRun : Type 0 where
  pub run : Recorded
  pub begin : ℕ

-- the run of a file with these lines
abbrev pub simulated : List ℕ → SampledLines → SimulatedRun
simulated path sampled = record { run = recorded path sampled.lines; begin = begin_in sampled }

-- the values begin behind time 0
abbrev pub is_late : SimulatedRun → Bool
is_late r = nat_lt 0 r.begin

-- each run as a stimulus has it
abbrev pub runs_text : List Recorded → List ℕ
runs_text runs = flat_map run_text runs

-- the text of what was simulated
abbrev pub simulated_text : List SimulatedRun → List ℕ
simulated_text runs = runs_text (map (λ r. r.run) runs)

abbrev pub recorded_in : CodeSimulatedRun → Recorded
recorded_in r = record { name = r.name.items; inputs = r.lines }

abbrev pub run_in : CodeSimulatedRun → SimulatedRun
run_in r = record { run = recorded_in r; begin = r.begin }

-- a clock is one of these names
abbrev pub is_data : List ℕ → List (List ℕ) → Bool
is_data clock names = list_any (λ name. same_name (key_parts name) (key_parts clock)) names
