-- What the code knows between two words, and what comes of a word.
use Rattle.std.specs.Prelude.{ℕ, nat_lt, ◌==◌, ◌&&◌, length, Bool, true, false, List, [], ◌∷◌, ◌++◌, map, Option, Some, None, Result, Ok, Err, if◌then◌else◌}
use Rattle.std.specs.Option.{option_or}
use Rattle.bs_bits.specs.Reading.{◌>>=◌}
use Rattle.bs_vcd_header.specs.declared.fault.VcdFault.{VcdFault}
use Rattle.bs_vcd_header.specs.declared.fault.VcdFault.TheVariants.{Line, Ended, DumpOff}
use Rattle.bs_vcd.specs.declared.clock_edges.SampledLines.{SampledLines}
use Rattle.bs_vcd.specs.declared.clock_edges.SamplingState.{SamplingState as CodeSamplingState}
use Rattle.bs_vcd_header.specs.Tokens.{VcdToken}
use Rattle.bs_vcd.specs.History.{ValueChange, WordPlace, Plain, Value, Skip, Remark, WordEffect, Goes, Changes, Begins, Stops, change_in, step}
use Rattle.bs_vcd.specs.Levels.{Known, latest, known_in}
use Rattle.bs_vcd.specs.Sampled.{SamplingRequest, is_until, line_by, rises, unknowns_of, wanted}

-- the time of the moment under way, that of the first change so far, what is known before the moment, its changes so far, and the lines
-- so far
pub record SamplingState : Type 0 where
  pub time : ℕ
  pub first : Option ℕ
  pub known : Known
  pub changes : List ValueChange
  pub lines : List (List Bool)

-- what is known after changes
abbrev pub known_after : Known → List ValueChange → Known
known_after known changes = λ id. option_or (latest id changes) (known id)

abbrev pub with_line : List (List Bool) → List Bool → List (List Bool)
with_line lines line = lines ++ line ∷ []

-- the lines with one more
abbrev pub lined : SamplingRequest → ℕ → Known → List (List Bool) → Result (List (List Bool)) VcdFault
lined a time known lines =
    line_by (unknowns_of a (length lines)) time known (wanted a (length lines)) >>= λ line. Ok (with_line lines line)

-- the lines at the end of a moment
abbrev pub closed : SamplingRequest → ℕ → Known → List ValueChange → List (List Bool) → Result (List (List Bool)) VcdFault
closed a time known changes lines =
    if is_until a.until time && rises a.clock known (known_after known changes) then lined a time known lines else Ok lines

-- the next moment
abbrev pub next_watch : ℕ → SamplingState → List (List Bool) → SamplingState
next_watch time w lines = record { time = time; first = w.first; known = known_after w.known w.changes; changes = []; lines = lines }

abbrev pub moved : SamplingRequest → ℕ → SamplingState → Result SamplingState VcdFault
moved a time w = closed a w.time w.known w.changes w.lines >>= λ lines. Ok (next_watch time w lines)

abbrev pub timed : SamplingRequest → ℕ → ℕ → SamplingState → Result SamplingState VcdFault
timed a line time w = if nat_lt time w.time then Err (Line line) else (if time == w.time then Ok w else moved a time w)

abbrev pub with_change : SamplingState → ValueChange → SamplingState
with_change w c =
    record { time = w.time; first = option_or w.first (Some w.time); known = w.known; changes = w.changes ++ c ∷ []; lines = w.lines }

abbrev pub took : SamplingRequest → ℕ → Option WordEffect → SamplingState → Result (WordPlace × SamplingState) VcdFault
took a line None w = Err (Line line)
took a line (Some (Goes mode)) w = Ok (mode, w)
took a line (Some (Changes c)) w = Ok (Plain, with_change w c)
took a line (Some (Begins time)) w = timed a line time w >>= λ next. Ok (Plain, next)
took a line (Some Stops) w = Err (DumpOff line)

-- a text may end where a change may begin
abbrev pub may_end : WordPlace → Bool
may_end Plain = true
may_end (Value bits) = false
may_end Skip = false
may_end Remark = false

-- the lines at the end of the text
abbrev pub tailed : SamplingRequest → ℕ → Known → List (List Bool) → Result (List (List Bool)) VcdFault
tailed a time known lines = if a.tail then lined a time known lines else Ok lines

abbrev pub ended : SamplingRequest → SamplingState → Result (List (List Bool)) VcdFault
ended a w = closed a w.time w.known w.changes w.lines >>= λ lines. tailed a w.time (known_after w.known w.changes) lines

abbrev pub finished : SamplingRequest → WordPlace → SamplingState → Result (List (List Bool)) VcdFault
finished a mode w = if may_end mode then ended a w else Err Ended

-- lines, and the times of a state
abbrev pub with_times : SamplingState → List (List Bool) → SampledLines
with_times w lines = record { first = w.first; last = w.time; lines = lines }

abbrev pub watched_from : SamplingRequest → WordPlace → SamplingState → List VcdToken → Result SampledLines VcdFault
watched_from a mode w [] = finished a mode w >>= λ lines. Ok (with_times w lines)
watched_from a mode w (t ∷ ts) = took a t.line (step mode t.text) w >>= λ next. watched_from a next.0 next.1 ts

-- before the first word
abbrev pub nothing_watched : SamplingState
nothing_watched = record { time = 0; first = None; known = λ id. None; changes = []; lines = [] }

abbrev pub watch_in : CodeSamplingState → SamplingState
watch_in w = record { time = w.time; first = w.first; known = known_in w.known; changes = map change_in w.changes.items; lines = w.lines }
