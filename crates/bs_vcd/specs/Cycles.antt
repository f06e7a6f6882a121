-- The states of a cycle and of those before it (docs/FORMATS.md, "Value changes (VCD)"). Each rising edge of the clock ends a cycle,
-- and the end of the text ends the last one.
use Rattle.std.specs.Prelude.{ℕ, ◌+◌, ◌-◌, nat_lt, ◌&&◌, Bool, true, false, List, [], length, drop, take, slice_index_or, Option, Some, None, Result, Ok, Err, if◌then◌else◌}
use Rattle.std.specs.Option.{unwrap_or}
use Rattle.bs_bits.specs.Reading.{◌>>=◌}
use Rattle.bs_vcd_header.specs.declared.fault.VcdFault.{VcdFault}
use Rattle.bs_vcd_header.specs.declared.fault.VcdFault.TheVariants.{Late, NoCycle, NoTime}
use Rattle.bs_vcd_header.specs.declared.sources.BitSource.{BitSource}
use Rattle.bs_vcd_header.specs.Header.{Header, HeaderDeclarations, HeaderState, header_of, header_from}
use Rattle.bs_vcd_header.specs.Tokens.{VcdToken, tokens_from}
use Rattle.bs_vcd.specs.declared.cycles.When.{When}
use Rattle.bs_vcd.specs.declared.cycles.When.TheVariants.{Time, Cycle}
use Rattle.bs_vcd.specs.declared.clock_edges.LineSpan.{LineSpan}
use Rattle.bs_vcd.specs.declared.clock_edges.SampledLines.{SampledLines}
use Rattle.bs_vcd.specs.declared.clock_edges.Unknowns.{Unknowns}
use Rattle.bs_vcd.specs.declared.clock_edges.Unknowns.TheVariants.{Refused, Low, Marked}
use Rattle.bs_vcd.specs.declared.cycles.MarkedStates.{MarkedStates}
use Rattle.bs_vcd.specs.History.{History, history_of}
use Rattle.bs_vcd.specs.Sampled.{SamplingRequest, lines_asked}
use Rattle.bs_vcd.specs.Stimulus.{ClockAndInputs, found_sampling, lacks_of, sampling_of}

-- the edges up to a time
abbrev pub edges_until : BitSource → ℕ → SamplingRequest
edges_until clock time = record { clock = clock; inputs = []; span = None; unknowns = Refused; until = Some time; tail = false }

-- how many edges there are up to a time, which is not behind the last one
abbrev pub edges_counted : ℕ → SampledLines → Result ℕ VcdFault
edges_counted time s = if nat_lt s.last time then Err (NoTime s.last) else Ok (length s.lines)

-- the number of the cycle, from 0: as many edges are before the cycle under way at a time, and at it
abbrev pub cycle_in : BitSource → History → When → Result ℕ VcdFault
cycle_in clock h (Time time) = lines_asked (edges_until clock time) h >>= λ s. edges_counted time s
cycle_in clock h (Cycle cycle) = Ok cycle

abbrev pub span : ℕ → ℕ → LineSpan
span cycle back = record { first = cycle - back; last = cycle }

-- the end of each cycle, and the bits of these sources at those of a cycle and so many before it
abbrev pub cycle_ends : Unknowns → ClockAndInputs → ℕ → ℕ → SamplingRequest
cycle_ends u s cycle back =
    record { clock = s.clock; inputs = s.inputs; span = Some (span cycle back); unknowns = u; until = None; tail = true }

-- the time of the first change, or 0 where there is none
abbrev pub begin_in : SampledLines → ℕ
begin_in s = unwrap_or s.first 0

-- cycles are wanted before those of the values, which begin behind time 0
abbrev pub is_late : (cycle back : ℕ) → SampledLines → Bool
is_late cycle back s = nat_lt cycle back && nat_lt 0 (begin_in s)

-- the lines of a cycle and of so many before it
abbrev pub window_of : (cycle back : ℕ) → SampledLines → List (List Bool)
window_of cycle back s = drop (cycle - back) (take (cycle + 1) s.lines)

-- the same, where there are that many cycles; fewer earlier ones are enough where the values begin at time 0
abbrev pub window : (cycle back : ℕ) → SampledLines → Result (List (List Bool)) VcdFault
window cycle back s =
    if nat_lt cycle (length s.lines) then (if is_late cycle back s then Err (Late (begin_in s)) else Ok (window_of cycle back s))
    else Err (NoCycle (length s.lines - 1))

abbrev pub states_at : Unknowns → ClockAndInputs → History → ℕ → ℕ → Result (List (List Bool)) VcdFault
states_at u s h back cycle = lines_asked (cycle_ends u s cycle back) h >>= λ sampled. window cycle back sampled

abbrev pub states_when : Unknowns → ClockAndInputs → History → When → ℕ → Result (List (List Bool)) VcdFault
states_when u s h at back = cycle_in s.clock h at >>= λ cycle. states_at u s h back cycle

-- the clock, and these names: each of them is there, unless bits may be unknown
abbrev pub sampling_by : Unknowns → HeaderDeclarations → Option (List ℕ) → List ℕ → List (List ℕ) → Result ClockAndInputs VcdFault
sampling_by Refused d scope clock keys = sampling_of d scope clock keys
sampling_by Low d scope clock keys = found_sampling d scope clock keys
sampling_by Marked d scope clock keys = found_sampling d scope clock keys

abbrev pub states_of : Unknowns → Header → Option (List ℕ) → List ℕ → List (List ℕ) → When → ℕ → Result (List (List Bool)) VcdFault
states_of u h scope clock keys at back = sampling_by u h.declared scope clock keys >>= λ s. states_when u s (history_of h.rest) at back

-- The bits of these names in a scope at the end of a cycle, and before them those of so many cycles before it, or of as many as there
-- are. Or the first fault: of the declarations, of the names, or of the value changes. What the last of them are where some bits are not
-- known is asked for.
abbrev pub states_by : Unknowns → List ℕ → Option (List ℕ) → List ℕ → List (List ℕ) → When → ℕ → Result (List (List Bool)) VcdFault
states_by u text scope clock keys at back = header_of (tokens_from 1 text) >>= λ h. states_of u h scope clock keys at back

-- the same, where so much is read of the declarations
abbrev pub states_from : Unknowns → HeaderState → List VcdToken → Option (List ℕ) → List ℕ → List (List ℕ) → When → ℕ →
    Result (List (List Bool)) VcdFault
states_from u b tokens scope clock keys at back = header_from b tokens >>= λ h. states_of u h scope clock keys at back

-- the same, where each bit is to be known
abbrev pub states_in : List ℕ → Option (List ℕ) → List ℕ → List (List ℕ) → When → ℕ → Result (List (List Bool)) VcdFault
states_in text scope clock keys at back = states_by Refused text scope clock keys at back

-- whether each bit at the end of a cycle is not known
abbrev pub marks_in : List ℕ → Option (List ℕ) → List ℕ → List (List ℕ) → When → Result (List Bool) VcdFault
marks_in text scope clock keys at = states_by Marked text scope clock keys at 0 >>= λ lines. Ok (slice_index_or lines 0 [])

-- how many of these names no variable has, where so much is read of the declarations
abbrev pub lacks_from : HeaderState → List VcdToken → Option (List ℕ) → List ℕ → List (List ℕ) → Result ℕ VcdFault
lacks_from b tokens scope clock keys = header_from b tokens >>= λ h. lacks_of h.declared scope clock keys

abbrev pub lacks_in : List ℕ → Option (List ℕ) → List ℕ → List (List ℕ) → Result ℕ VcdFault
lacks_in text scope clock keys = header_of (tokens_from 1 text) >>= λ h. lacks_of h.declared scope clock keys

-- The same, where each bit before the last state is to be known: in the last state 0 stands for one that is not, and a mark for each. So
-- it does for a name that no variable has, and it is told how many there are; but one name is to be found.
abbrev pub marked_in : List ℕ → Option (List ℕ) → List ℕ → List (List ℕ) → When → ℕ → Result MarkedStates VcdFault
marked_in text scope clock keys at back = do
  states ← states_by Low text scope clock keys at back
  marks ← marks_in text scope clock keys at
  lacks ← lacks_in text scope clock keys
  Ok record { states = states; marks = marks; lacks = lacks }
