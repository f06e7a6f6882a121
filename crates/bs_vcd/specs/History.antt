-- What the value changes of a VCD say: moments in time, each with its changes (docs/FORMATS.md, "Value changes (VCD)").
use Rattle.std.specs.Prelude.{ℕ, nat_lt, ◌==◌, List, [], ◌∷◌, ◌++◌, codes, Option, Some, None, if◌then◌else◌}
use Rattle.std.specs.Option.{option_or}
use Rattle.std.specs.Str.{bytes_eq}
use Rattle.bs_vcd.specs.declared.changes.ValueChange.{ValueChange as CodeValueChange}
use Rattle.bs_vcd.specs.declared.changes.WordPlace.{WordPlace as CodeWordPlace}
use Rattle.bs_vcd.specs.declared.changes.WordPlace.TheVariants as M
use Rattle.bs_vcd.specs.declared.changes.WordEffect.{WordEffect as CodeWordEffect}
use Rattle.bs_vcd.specs.declared.changes.WordEffect.TheVariants as T
use Rattle.bs_vcd_header.specs.declared.fault.VcdFault.{VcdFault}
use Rattle.bs_vcd_header.specs.declared.fault.VcdFault.TheVariants.{Line, Ended, DumpOff}
use Rattle.bs_vcd_header.specs.Tokens.{VcdToken}
use Rattle.bs_vcd_header.specs.Words.{Said, Time, Scalar, Vector, Passed, Comment, Nothing, Off, id_in, said_of}

-- the new value of the variables with this code, a character a bit, the lowest last
pub record ValueChange : Type 0 where
  pub id : ℕ
  pub bits : List ℕ

-- a time, and its changes in order
pub record Moment : Type 0 where
  pub time : ℕ
  pub changes : List ValueChange

-- the moments up to the end of the text, or up to the first fault
pub record History : Type 0 where
  pub moments : List Moment
  pub fault : Option VcdFault

-- ---- a word

-- where a word stands: where a change may begin, behind the bits of a vector, behind a value without bits, or in a comment
pub data WordPlace : Type 0 where
  Plain : WordPlace
  Value : List ℕ → WordPlace
  Skip : WordPlace
  Remark : WordPlace

-- what comes of a word: a place for the next one, a change, a time, or that the dump is switched off
pub data WordEffect : Type 0 where
  Goes : WordPlace → WordEffect
  Changes : ValueChange → WordEffect
  Begins : ℕ → WordEffect
  Stops : WordEffect

abbrev pub change : List ℕ → ℕ → ValueChange
change bits id = record { id = id; bits = bits }

abbrev pub step_of : Option Said → Option WordEffect
step_of None = None
step_of (Some (Time time)) = Some (Begins time)
step_of (Some (Scalar bits id)) = Some (Changes (change bits id))
step_of (Some (Vector bits)) = Some (Goes (Value bits))
step_of (Some Passed) = Some (Goes Skip)
step_of (Some Comment) = Some (Goes Remark)
step_of (Some Nothing) = Some (Goes Plain)
step_of (Some Off) = Some Stops

abbrev pub named_step : List ℕ → Option ℕ → Option WordEffect
named_step bits None = None
named_step bits (Some id) = Some (Changes (change bits id))

abbrev pub remark_step : List ℕ → WordEffect
remark_step text = if bytes_eq text (codes "$end") then Goes Plain else Goes Remark

-- what comes of a word at its place, if it may stand there
abbrev pub step : WordPlace → List ℕ → Option WordEffect
step Plain text = step_of (said_of text)
step (Value bits) text = named_step bits (id_in text)
step Skip text = Some (Goes Plain)
step Remark text = Some (remark_step text)

-- ---- the moments

abbrev pub stopped : VcdFault → History
stopped fault = record { moments = []; fault = Some fault }

abbrev pub before : Moment → History → History
before now later = record { moments = now ∷ later.moments; fault = later.fault }

abbrev pub moment : ℕ → Moment
moment time = record { time = time; changes = [] }

abbrev pub with_change : Moment → ValueChange → Moment
with_change now c = record { time = now.time; changes = now.changes ++ c ∷ [] }

-- the text may end where a change may begin
abbrev pub ended : WordPlace → Moment → History
ended Plain now = before now record { moments = []; fault = None }
ended (Value bits) now = stopped Ended
ended Skip now = stopped Ended
ended Remark now = stopped Ended

-- times do not fall, and the same time goes on
abbrev pub begun : Moment → ℕ → ℕ → (Moment → History) → History
begun now line time on =
    if nat_lt time now.time then stopped (Line line) else (if time == now.time then on now else before now (on (moment time)))

abbrev pub stepped : Option WordEffect → Moment → ℕ → (WordPlace → Moment → History) → History
stepped None now line on = stopped (Line line)
stepped (Some (Goes mode)) now line on = on mode now
stepped (Some (Changes c)) now line on = on Plain (with_change now c)
stepped (Some (Begins time)) now line on = begun now line time (on Plain)
stepped (Some Stops) now line on = stopped (DumpOff line)

-- the moments of these words, the first of which is under way
abbrev pub history_from : WordPlace → Moment → List VcdToken → History
history_from mode now [] = ended mode now
history_from mode now (t ∷ ts) = stepped (step mode t.text) now t.line (λ m n. history_from m n ts)

-- the moments of the words behind the declarations; what stands before the first time is of time 0
abbrev pub history_of : List VcdToken → History
history_of tokens = history_from Plain (moment 0) tokens

-- ---- the times

-- a time, where it has changes
abbrev pub time_if : List ValueChange → ℕ → Option ℕ
time_if [] time = None
time_if (c ∷ cs) time = Some time

-- the time of the first change, if there is one
abbrev pub begin_of : List Moment → Option ℕ
begin_of [] = None
begin_of (m ∷ ms) = option_or (time_if m.changes m.time) (begin_of ms)

-- the last time, where this one was before
abbrev pub last_of : ℕ → List Moment → ℕ
last_of time [] = time
last_of time (m ∷ ms) = last_of m.time ms

-- ---- the code's values

abbrev pub change_in : CodeValueChange → ValueChange
change_in c = record { id = c.id; bits = c.bits.now }

abbrev pub mode_in : CodeWordPlace → WordPlace
mode_in M.Plain = Plain
mode_in (M.Value bits) = Value bits.now
mode_in M.Skip = Skip
mode_in M.Remark = Remark

abbrev pub step_in : CodeWordEffect → WordEffect
step_in (T.Goes mode) = Goes (mode_in mode)
step_in (T.Changes c) = Changes (change_in c)
step_in (T.Begins time) = Begins time
step_in T.Stops = Stops

abbrev pub maybe_step : Option CodeWordEffect → Option WordEffect
maybe_step None = None
maybe_step (Some s) = Some (step_in s)
