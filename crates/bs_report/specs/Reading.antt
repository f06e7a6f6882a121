-- What report a text is, or the first fault of a text that is none (docs/FORMATS.md, "Report").
use Rattle.std.specs.Prelude.{ℕ, ◌+◌, ◌-◌, ◌==◌, ◌||◌, Bool, true, false, List, [], ◌∷◌, ◌++◌, length, codes, Option, Some, None, option_map, Result, Ok}
use Rattle.std.specs.Prelude.{Err, if◌then◌else◌}
use Rattle.std.specs.Str.{bytes_eq}
use Rattle.bs_log.specs.LineReading.{line_in}
use Rattle.bs_scan.specs.declared.seen.Seen.{Seen}
use Rattle.bs_report.specs.declared.fault.ReportFault.{ReportFault}
use Rattle.bs_report.specs.declared.fault.ReportFault.TheVariants as faults
use Rattle.bs_report.specs.declared.place.PartialStep.{PartialStep}
use Rattle.bs_report.specs.declared.place.NextLine.{NextLine}
use Rattle.bs_report.specs.declared.place.NextLine.TheVariants as places
use Rattle.bs_report.specs.declared.report.HitLine.{HitLine}
use Rattle.bs_report.specs.declared.report.ListEnd.{ListEnd}
use Rattle.bs_report.specs.declared.report.Stop.{Stop}
use Rattle.bs_report.specs.declared.report.Stop.TheVariants as stops
use Rattle.bs_report.specs.declared.report.Cand.{Cand}
use Rattle.bs_report.specs.declared.report.Step.{Step}
use Rattle.bs_report.specs.declared.report.Report.{Report}
use Rattle.bs_bits.specs.Lines.{pieces_of}
use Rattle.bs_bits.specs.Reading.{◌>>=◌}
use Rattle.bs_report.specs.Forms.{depth_in, count_in, bits_in, seen_in, budgets_in, older_in, cand_in, end_in, hit_in, stop_in}

-- ---- a line at its place

-- what is read so far, and what the next line may be
abbrev pub Reached : Type 0
Reached = NextLine × Report

abbrev pub when : Bool → Reached → Option Reached
when allowed reached = if allowed then Some reached else None

-- the line that begins the step with this number
abbrev pub begins : ℕ → Option ℕ → Bool
begins number None = false
begins number (Some n) = n == number

-- a cause, or else the next step
abbrev pub turned : Report → List ℕ → Option Stop → Option Reached
turned r text None = when (begins (length r.steps + 1) (count_in (codes "step") text)) (places.Present, r)
turned r text (Some stop) = Some (places.Trace, record r { stop = stop })

-- the state of a step, and its signature
abbrev pub present_place : List ℕ → Option NextLine
present_place text = option_map (λ present. places.Stored present) (seen_in (codes "present") text)

abbrev pub begun : Seen → List Bool → Option (List Bool) → PartialStep
begun present stored older = record { present = present; stored = stored; older = older }

-- behind a stored signature: at depth 1 the list, and else the older one
abbrev pub behind_stored : ℕ → Seen → List Bool → NextLine
behind_stored depth present stored =
    if depth == 1 then places.Listing (begun present stored None) [] else places.Older present stored

abbrev pub stored_place : ℕ → Seen → List ℕ → Option NextLine
stored_place depth present text = option_map (λ stored. behind_stored depth present stored) (bits_in (codes "stored") text)

abbrev pub older_place : Seen → List Bool → List ℕ → Option NextLine
older_place present stored text = option_map (λ older. places.Listing (begun present stored older) []) (older_in text)

-- a candidate, or else how the list ended
abbrev pub more_listed : PartialStep → List Cand → List ℕ → Option Cand → Option NextLine
more_listed b cands text None = option_map (λ ended. places.Hit b cands ended) (end_in text)
more_listed b cands text (Some cand) = Some (places.Listing b (cands ++ cand ∷ []))

abbrev pub listed_place : ℕ → PartialStep → List Cand → List ℕ → Option NextLine
listed_place depth b cands text = more_listed b cands text (cand_in depth text)

-- the place, where nothing but what the place says is read
abbrev pub unchanged : Report → Option NextLine → Option Reached
unchanged r next = option_map (λ place. (place, r)) next

abbrev pub step_of : PartialStep → List Cand → ListEnd → Option HitLine → Step
step_of b cands ended hit =
    record { present = b.present; stored = b.stored; older = b.older; cands = cands; end = ended; hit = hit }

-- the report with a step more
abbrev pub put_step : Report → Step → Report
put_step r step = record r { steps = r.steps ++ step ∷ [] }

abbrev pub with_step : Report → PartialStep → List Cand → ListEnd → Option HitLine → Report
with_step r b cands ended hit = put_step r (step_of b cands ended hit)

-- behind a state of the trace, where so many inputs are left
abbrev pub behind_state : ℕ → NextLine
behind_state left = if left == 0 then places.Log else places.Input left

-- whether a state of the trace may stand where so many inputs are left: in the last one alone some bits may not be known
abbrev pub may_stand : ℕ → Seen → Bool
may_stand left seen = (length seen.free == 0) || (left == 0)

abbrev pub standing : ℕ → Option Seen → Option Seen
standing left None = None
standing left (Some seen) = if may_stand left seen then Some seen else None

-- a state of the trace, where so many inputs are left
abbrev pub state_in : ℕ → List ℕ → Option Seen
state_in left text = standing left (seen_in (codes "state") text)

-- the report with a state of the trace more
abbrev pub with_state : Report → Seen → Report
with_state r seen = record r { states = r.states ++ seen.bits ∷ []; free = seen.free }

-- where so many log lines are left
abbrev pub log_place : ℕ → NextLine
log_place left = if left == 0 then places.End else places.Lines left

-- What a line gives at its place; none where it is of a form that the place does not allow. The head is two lines. Then
-- each step has its lines `step`, `present`, `stored` and at depth 2 `older`, those of its candidates, `list`, and `hit` or
-- `nohit`. Behind the line `stop` come the trace, a state and so many times an input and a state, and so many log lines, and then `end`.
-- Of the last state some bits may not be known.
abbrev pub taken : NextLine → Report → List ℕ → Option Reached
taken places.Title r text = option_map (λ depth. (places.Asked, record r { depth = depth })) (depth_in text)
taken places.Asked r text = option_map (λ budgets. (places.Turn, record r { budgets = budgets })) (budgets_in text)
taken places.Turn r text = turned r text (stop_in text)
taken places.Present r text = unchanged r (present_place text)
taken (places.Stored present) r text = unchanged r (stored_place r.depth present text)
taken (places.Older present stored) r text = unchanged r (older_place present stored text)
taken (places.Listing b cands) r text = unchanged r (listed_place r.depth b cands text)
taken (places.Hit b cands ended) r text = option_map (λ hit. (places.Turn, with_step r b cands ended hit)) (hit_in text)
taken places.Trace r text = unchanged r (option_map (λ n. places.State n) (count_in (codes "trace") text))
taken (places.State left) r text = option_map (λ seen. (behind_state left, with_state r seen)) (state_in left text)
taken (places.Input left) r text = option_map (λ x. (places.State (left - 1), record r { inputs = r.inputs ++ x ∷ [] })) (bits_in (codes "input") text)
taken places.Log r text = unchanged r (option_map (λ n. log_place n) (count_in (codes "log") text))
taken (places.Lines left) r text = option_map (λ l. (log_place (left - 1), record r { log = r.log ++ l ∷ [] })) (line_in text)
taken places.End r text = when (bytes_eq text (codes "end")) (places.Done, r)
taken places.Done r text = None

abbrev pub is_done : NextLine → Bool
is_done places.Done = true
is_done _ = false

-- ---- the whole text

abbrev pub line_or_fault : ℕ → Option Reached → Result Reached ReportFault
line_or_fault number None = Err (faults.Line number)
line_or_fault number (Some reached) = Ok reached

-- what the whole line with this number gives
abbrev pub followed : ℕ → NextLine → Report → List ℕ → Result Reached ReportFault
followed number place r text = if is_done place then Err faults.Extra else line_or_fault number (taken place r text)

-- what is wrong with a text that ends at a place, with these bytes behind its last line feed
abbrev pub end_fault : NextLine → List ℕ → Option ReportFault
end_fault place rest = if is_done place then (if length rest == 0 then None else Some faults.Extra) else Some faults.Short

-- what the bytes behind the last line feed give
abbrev pub ended : NextLine → Report → List ℕ → Result Report ReportFault
ended place r rest = if is_done place then (if length rest == 0 then Ok r else Err faults.Extra) else Err faults.Short

-- the pieces of a text from a place on, where the first of them has this number
abbrev pub report_from : ℕ → NextLine → Report → List (List ℕ) → Result Report ReportFault
report_from number place r [] = ended place r []
report_from number place r (rest ∷ []) = ended place r rest
report_from number place r (text ∷ next ∷ pieces) =
    followed number place r text >>= λ reached. report_from (number + 1) reached.0 reached.1 (next ∷ pieces)

-- before the first line
abbrev pub nothing_read : Report
nothing_read =
    record {
      depth = 1;
      budgets = record { steps = 0; candidates = 0; conflicts = 0 };
      steps = [];
      stop = stops.Reset;
      states = [];
      inputs = [];
      free = [];
      log = [];
    }

-- the report whose text this is, or the first fault
unfoldable pub report_in : List ℕ → Result Report ReportFault
report_in bytes = report_from 1 places.Title nothing_read (pieces_of bytes)
