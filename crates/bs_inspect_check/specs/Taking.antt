-- What comes of the words of the value changes up to the next time.
use Rattle.std.specs.Prelude.{ℕ, ◌+◌, nat_lt, ◌==◌, List, [], ◌∷◌, ◌++◌, length, map, Option, Some, None, Result, Ok, Err, if◌then◌else◌}
use Rattle.bs_vcd_header.specs.declared.fault.VcdFault.{VcdFault}
use Rattle.bs_vcd_header.specs.declared.fault.VcdFault.TheVariants.{Line, DumpOff}
use Rattle.bs_vcd_header.specs.Tokens.{tokens_from}
use Rattle.bs_vcd.specs.declared.changes.ValueChange.{ValueChange as CodeValueChange}
use Rattle.bs_vcd.specs.History.{ValueChange, WordPlace, Plain, WordEffect, Goes, Changes, Begins, Stops, Moment, History, change_in, history_from, mode_in, moment}
use Rattle.bs_inspect_check.specs.declared.moments.MomentStart.{MomentStart}
use Rattle.bs_inspect_check.specs.declared.moments.NextTime.{NextTime as CodeTurn}

-- where the next word stands, the time that begins with the word, if a later one does, and the changes so far
pub record NextTime : Type 0 where
  pub place : WordPlace
  pub next : Option ℕ
  pub changes : List ValueChange

abbrev pub turn : WordPlace → Option ℕ → List ValueChange → NextTime
turn place next changes = record { place = place; next = next; changes = changes }

abbrev pub later : (time next : ℕ) → Option ℕ
later time next = if next == time then None else Some next

-- what comes of a word of a line in a moment
abbrev pub turned : (time line : ℕ) → List ValueChange → Option WordEffect → Result NextTime VcdFault
turned time line changes None = Err (Line line)
turned time line changes (Some (Goes place)) = Ok (turn place None changes)
turned time line changes (Some (Changes c)) = Ok (turn Plain None (changes ++ c ∷ []))
turned time line changes (Some (Begins next)) = if nat_lt next time then Err (Line line) else Ok (turn Plain (later time next) changes)
turned time line changes (Some Stops) = Err (DumpOff line)

abbrev pub turn_in : CodeTurn → List CodeValueChange → NextTime
turn_in t changes = record { place = mode_in t.place; next = t.next; changes = map change_in changes }

-- ---- a moment

abbrev pub moment_in : ℕ → List CodeValueChange → Moment
moment_in time changes = record { time = time; changes = map change_in changes }

-- the moments from a place of the text on, if there are more
abbrev pub history_at : Option MomentStart → History
history_at None = record { moments = []; fault = None }
history_at (Some s) = history_from Plain (moment s.time) (tokens_from s.line s.rest.now)

-- how much is left of the text, with the moment that is under way
abbrev pub left : Option MomentStart → ℕ
left None = 0
left (Some s) = length s.rest.now + 1

-- the greatest number that a line can have
abbrev pub last_line : Option MomentStart → ℕ
last_line None = 0
last_line (Some s) = s.line + length s.rest.now
