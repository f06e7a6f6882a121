-- The flip-flops of a recorded run beside those of a simulation (docs/FORMATS.md, "Texts of `backspace_inspect`").
use Rattle.std.specs.Prelude.{ℕ, ◌+◌, ◌-◌, nat_le, ◌==◌, Bool, true, false, not, List, [], ◌∷◌, length, map, filter, take, take_while, sum_by, count_by, slice_index_or, Option, Result}
use Rattle.std.specs.Bool.{beq}
use Rattle.std.specs.List.{list_any, range_with_len}
use Rattle.std.specs.Option.{unwrap_or}
use Rattle.bs_bits.specs.Reading.{◌>>=◌}
use Rattle.bs_net.specs.Circuit.{Circuit}
use Rattle.bs_net_names.specs.Keys.{key_parts}
use Rattle.bs_scan.specs.Moments.{Run, state_at}
use Rattle.bs_vcd_header.specs.declared.fault.VcdFault.{VcdFault}
use Rattle.bs_vcd_header.specs.declared.fault.VcdFault.TheVariants.{NoClock}
use Rattle.bs_vcd_header.specs.declared.sources.BitSource.{BitSource}
use Rattle.bs_vcd_header.specs.Header.{Header, HeaderState, header_of, header_from}
use Rattle.bs_vcd_header.specs.Sources.{or_fault as or_missed, scope_of, source_in}
use Rattle.bs_vcd_header.specs.Tokens.{VcdToken, tokens_from}
use Rattle.bs_vcd.specs.History.{History, begin_of, history_of}
use Rattle.bs_vcd.specs.Sampled.{or_fault}
use Rattle.bs_inspect_check.specs.declared.flops.FlopComparison.{FlopComparison}
use Rattle.bs_inspect_check.specs.declared.level.FlopLevel.{FlopLevel}
use Rattle.bs_inspect_check.specs.declared.level.FlopLevel.TheVariants.{Missing, Unknown, Known as Level}
use Rattle.bs_inspect_check.specs.declared.tally.CycleEnd.{CycleEnd}
use Rattle.bs_vcd.specs.Found.{is_found, some_found, sources_of}
use Rattle.bs_inspect_check.specs.Samples.{samples}

-- ---- a flip-flop at the end of a cycle

-- the VCD has another bit than the netlist; an unknown bit and a missing one are no other
abbrev pub is_other : Bool → FlopLevel → Bool
is_other bit Missing = false
is_other bit Unknown = false
is_other bit (Level other) = not (beq bit other)

-- the bit of the flip-flop at a place differs
abbrev pub differs_at : List Bool → List FlopLevel → ℕ → Bool
differs_at state levels place = is_other (slice_index_or state place false) (slice_index_or levels place Missing)

-- the bit of some flip-flop differs
abbrev pub differs : List Bool → List FlopLevel → Bool
differs state levels = list_any (differs_at state levels) (range_with_len 0 (length levels))

abbrev pub is_unknown : FlopLevel → Bool
is_unknown Missing = false
is_unknown Unknown = true
is_unknown (Level bit) = false

-- how many flip-flops are unknown
abbrev pub count_unknown : List FlopLevel → ℕ
count_unknown levels = count_by is_unknown levels

-- ---- the cycles

-- the number of a cycle, the state of the run there, and what the VCD has of it
abbrev pub cycle_end : Circuit → Run → ℕ → List FlopLevel → CycleEnd
cycle_end c run cycle levels = record { cycle = cycle; state = state_at c run cycle; levels = levels }

-- the ends of cycles, the first of which has this number
abbrev pub ends_from : Circuit → Run → ℕ → List (List FlopLevel) → List CycleEnd
ends_from c run cycle [] = []
ends_from c run cycle (levels ∷ more) = cycle_end c run cycle levels ∷ ends_from c run (cycle + 1) more

-- the cycle is one of the run's: a run of n inputs has the cycles 0 to n
abbrev pub is_recorded : Run → CycleEnd → Bool
is_recorded run e = nat_le e.cycle (length run)

-- the cycles that both the run and the VCD have
abbrev pub shared : Circuit → Run → List (List FlopLevel) → List CycleEnd
shared c run all = filter (is_recorded run) (ends_from c run 0 all)

-- the bit of some flip-flop differs at the end of a cycle
abbrev pub is_different : CycleEnd → Bool
is_different e = differs e.state e.levels

abbrev pub is_same : CycleEnd → Bool
is_same e = not (is_different e)

-- the cycles before the first one that differs
abbrev pub agreeing : List CycleEnd → List CycleEnd
agreeing ends = take_while is_same ends

-- the first cycle that differs, if there is one
abbrev pub first_different : List CycleEnd → List CycleEnd
first_different ends = take 1 (filter is_different ends)

abbrev pub unknown_at : CycleEnd → ℕ
unknown_at e = count_unknown e.levels

-- how many bits are unknown in cycles
abbrev pub sum_unknown : List CycleEnd → ℕ
sum_unknown ends = sum_by unknown_at ends

-- ---- a run and its VCD

-- How many cycles the run has, how many rising edges the VCD, and the time at which its values begin. How many cycles agree before the
-- first one that differs, how many bits are unknown in these, and that one, if there is one. Which flip-flops the VCD has.
abbrev pub comparison : Circuit → Run → BitSource → List (Option BitSource) → History → FlopComparison
comparison c run clock sources h =
    let all : List (List FlopLevel) = samples clock sources h.moments in
    let ends : List CycleEnd = shared c run all in
    record {
      cycles = length run;
      edges = length all - 1;
      begin = unwrap_or (begin_of h.moments) 0;
      agreed = length (agreeing ends);
      unknown = sum_unknown (agreeing ends);
      differing = first_different ends;
      found = map is_found sources;
    }

-- the same where the value changes are a text without a fault
abbrev pub compared_by : Circuit → Run → BitSource → List (Option BitSource) → History → Result FlopComparison VcdFault
compared_by c run clock sources h = or_fault h.fault (comparison c run clock sources h)

-- the same by what is declared: the clock in its scope, and the flip-flops with these names there
abbrev pub compared_of : Circuit → Run → Header → Option (List ℕ) → List ℕ → List (List ℕ) → Result FlopComparison VcdFault
compared_of c run h scope clock names = do
  path ← or_missed NoClock (scope_of scope (key_parts clock) h.declared)
  source ← or_missed NoClock (source_in h.declared.paths path (key_parts clock) h.declared.variables)
  sources ← some_found (sources_of h.declared path names)
  compared_by c run source sources (history_of h.rest)

-- A run of a netlist beside the text of a VCD, in which the flip-flops have these names; or the first fault of the text: of the
-- declarations, of the names, or of the value changes.
abbrev pub flops_compared : Circuit → Run → List ℕ → Option (List ℕ) → List ℕ → List (List ℕ) → Result FlopComparison VcdFault
flops_compared c run text scope clock names = header_of (tokens_from 1 text) >>= λ h. compared_of c run h scope clock names

-- the same, where so much is read of the declarations
abbrev pub compared_from : Circuit → Run → HeaderState → List VcdToken → Option (List ℕ) → List ℕ → List (List ℕ) → Result FlopComparison VcdFault
compared_from c run b tokens scope clock names = header_from b tokens >>= λ h. compared_of c run h scope clock names
