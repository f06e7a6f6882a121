-- The lines of a run: the inputs just before each rising edge of a clock (docs/FORMATS.md, "Value changes (VCD)").
use Rattle.std.specs.Prelude.{ℕ, ◌+◌, ◌==◌, nat_le, Bool, true, false, not, ◌&&◌, ◌||◌, List, [], ◌∷◌, ◌++◌, map, filter, Option, Some, None, Result, Ok, Err, if◌then◌else◌}
use Rattle.std.specs.List.{position}
use Rattle.bs_bits.specs.Reading.{◌>>=◌}
use Rattle.bs_vcd_header.specs.declared.fault.VcdFault.{VcdFault}
use Rattle.bs_vcd_header.specs.declared.fault.VcdFault.TheVariants.{Unknown}
use Rattle.bs_vcd_header.specs.declared.sources.BitSource.{BitSource}
use Rattle.bs_vcd.specs.declared.clock_edges.LineSpan.{LineSpan}
use Rattle.bs_vcd.specs.declared.clock_edges.SampledLines.{SampledLines}
use Rattle.bs_vcd.specs.declared.clock_edges.Unknowns.{Unknowns}
use Rattle.bs_vcd.specs.declared.clock_edges.Unknowns.TheVariants.{Refused, Low, Marked}
use Rattle.bs_vcd.specs.declared.clock_edges.SamplingRequest.{SamplingRequest as CodeSamplingRequest}
use Rattle.bs_vcd.specs.History.{ValueChange, Moment, History, begin_of, last_of}
use Rattle.bs_vcd.specs.Levels.{Known, known_by, level, is_bit, is_given, is_unknown}

-- a moment, and all changes before it
pub record Cut : Type 0 where
  pub earlier : List ValueChange
  pub moment : Moment

-- each of these moments with all changes before it
abbrev pub cuts_from : List ValueChange → List Moment → List Cut
cuts_from earlier [] = []
cuts_from earlier (m ∷ ms) = (record { earlier = earlier; moment = m }) ∷ cuts_from (earlier ++ m.changes) ms

-- from one level to another a bit has a `posedge` (IEEE 1364-2005, 9.7.2): from 0 to 1, x or z, and from x or z to 1
abbrev pub is_posedge : Option Bool → Option Bool → Bool
is_posedge before behind = (is_bit false before && not (is_bit false behind)) || (not (is_bit true before) && is_bit true behind)

-- a clock rises in a moment where it has a value before it, and a `posedge` from that to the value at its end
abbrev pub rises : BitSource → Known → Known → Bool
rises clock before behind = is_given before clock && is_posedge (level before clock) (level behind clock)

abbrev pub is_edge : BitSource → Cut → Bool
is_edge clock cut = rises clock (known_by cut.earlier) (known_by (cut.earlier ++ cut.moment.changes))

abbrev pub line_or : ℕ → Known → List BitSource → Option ℕ → Result (List Bool) VcdFault
line_or time known inputs (Some k) = Err (Unknown k time)
line_or time known inputs None = Ok (map (λ s. is_bit true (level known s)) inputs)

-- the bit of each input by what is known, or the first input whose bit is not
abbrev pub line_of : ℕ → Known → List BitSource → Result (List Bool) VcdFault
line_of time known inputs = line_or time known inputs (position (is_unknown known) inputs)

-- the inputs just before a moment
abbrev pub line_at : List BitSource → Cut → Result (List Bool) VcdFault
line_at inputs cut = line_of cut.moment.time (known_by cut.earlier) inputs

-- all values, or the first fault
abbrev pub all_ok : {A F : Type 0} → List (Result A F) → Result (List A) F
all_ok [] = Ok []
all_ok (r ∷ rs) = r >>= λ x. all_ok rs >>= λ xs. Ok (x ∷ xs)

abbrev pub or_fault : {A : Type 0} → Option VcdFault → A → Result A VcdFault
or_fault None lines = Ok lines
or_fault (Some fault) lines = Err fault

-- lines, with the time of the first change and the last time
abbrev pub timed_lines : History → List (List Bool) → SampledLines
timed_lines h lines = record { first = begin_of h.moments; last = last_of 0 h.moments; lines = lines }

-- the line of each moment in which the clock rises
abbrev pub lines_of : BitSource → List BitSource → List ValueChange → List Moment → Result (List (List Bool)) VcdFault
lines_of clock inputs earlier moments = all_ok (map (line_at inputs) (filter (is_edge clock) (cuts_from earlier moments)))

-- The lines of all rising edges of a clock, in order; or the first fault in the order of the text.
abbrev pub sampled : BitSource → List BitSource → History → Result SampledLines VcdFault
sampled clock inputs h = lines_of clock inputs [] h.moments >>= λ lines. or_fault h.fault (timed_lines h lines)

-- ---- the same of some edges

-- The edges of a clock, up to a time, where one is given, and the end of the text, where that is asked for; the sources whose bits
-- stand in the lines of a span, or in all; and what the last line of the span is where some bits are not known.
pub record SamplingRequest : Type 0 where
  pub clock : BitSource
  pub inputs : List BitSource
  pub span : Option LineSpan
  pub unknowns : Unknowns
  pub until : Option ℕ
  pub tail : Bool

abbrev pub asked_in : CodeSamplingRequest → SamplingRequest
asked_in a =
    record { clock = a.clock; inputs = a.inputs.now; span = a.span; unknowns = a.unknowns; until = a.until; tail = a.tail }

-- the number of a line lies in a span
abbrev pub is_within : Option LineSpan → ℕ → Bool
is_within None n = true
is_within (Some s) n = nat_le s.first n && nat_le n s.last

-- a time is not behind another
abbrev pub is_until : Option ℕ → ℕ → Bool
is_until None time = true
is_until (Some until) time = nat_le time until

-- the sources whose bits stand in the line with this number; a line outside the span has none
abbrev pub wanted : SamplingRequest → ℕ → List BitSource
wanted a n = if is_within a.span n then a.inputs else []

-- a line is the last one of a span
abbrev pub is_last : Option LineSpan → ℕ → Bool
is_last None n = false
is_last (Some s) n = n == s.last

-- what the line with this number is where some bits are not known
abbrev pub unknowns_of : SamplingRequest → ℕ → Unknowns
unknowns_of a n = if is_last a.span n then a.unknowns else Refused

-- the line of some sources: the bit of each, or the first that is not known; with 0 for each that is not known; or whether each is not known
abbrev pub line_by : Unknowns → ℕ → Known → List BitSource → Result (List Bool) VcdFault
line_by Refused time known inputs = line_of time known inputs
line_by Low time known inputs = Ok (map (λ s. is_bit true (level known s)) inputs)
line_by Marked time known inputs = Ok (map (is_unknown known) inputs)

-- the line with this number, just before a moment
abbrev pub asked_line : SamplingRequest → ℕ → Cut → Result (List Bool) VcdFault
asked_line a n cut = line_by (unknowns_of a n) cut.moment.time (known_by cut.earlier) (wanted a n)

-- an edge that is asked for
abbrev pub is_stop : SamplingRequest → Cut → Bool
is_stop a cut = is_until a.until cut.moment.time && is_edge a.clock cut

-- the end of a text without a fault, where that is asked for
abbrev pub tail_here : SamplingRequest → Option VcdFault → Cut → List Cut
tail_here a None cut = if a.tail then cut ∷ [] else []
tail_here a (Some fault) cut = []

-- the same behind moments, before which this time was
abbrev pub tail_of : SamplingRequest → Option VcdFault → List ValueChange → ℕ → List Moment → List Cut
tail_of a fault earlier time [] = tail_here a fault record { earlier = earlier; moment = record { time = time; changes = [] } }
tail_of a fault earlier time (m ∷ ms) = tail_of a fault (earlier ++ m.changes) m.time ms

abbrev pub stops_of : SamplingRequest → List ValueChange → ℕ → History → List Cut
stops_of a earlier time h = filter (is_stop a) (cuts_from earlier h.moments) ++ tail_of a h.fault earlier time h.moments

-- the lines of these, the first of which has this number
abbrev pub numbered_lines : SamplingRequest → ℕ → List Cut → Result (List (List Bool)) VcdFault
numbered_lines a n [] = Ok []
numbered_lines a n (cut ∷ cuts) = asked_line a n cut >>= λ x. numbered_lines a (n + 1) cuts >>= λ xs. Ok (x ∷ xs)

-- The lines that are asked for, in order; or the first fault in the order of the text.
abbrev pub lines_asked : SamplingRequest → History → Result SampledLines VcdFault
lines_asked a h = numbered_lines a 0 (stops_of a [] 0 h) >>= λ lines. or_fault h.fault (timed_lines h lines)

-- all edges of a clock, and the bits of these sources in each line
abbrev pub all_edges : BitSource → List BitSource → SamplingRequest
all_edges clock inputs = record { clock = clock; inputs = inputs; span = None; unknowns = Refused; until = None; tail = false }
