-- What answer a text is, or the first fault of a text that is none (docs/FORMATS.md, "The answer of reach").
use Rattle.std.specs.Prelude.{ℕ, ◌+◌, ◌-◌, ◌==◌, Bool, true, false, List, [], ◌∷◌, ◌++◌, length, codes, Option, Some, None, option_map, Result, Ok}
use Rattle.std.specs.Prelude.{Err, if◌then◌else◌}
use Rattle.std.specs.Str.{bytes_eq}
use Rattle.bs_bits.specs.Lines.{pieces_of}
use Rattle.bs_bits.specs.Reading.{◌>>=◌}
use Rattle.bs_report.specs.declared.fault.ReportFault.{ReportFault}
use Rattle.bs_report.specs.declared.fault.ReportFault.TheVariants as faults
use Rattle.bs_report.specs.Forms.{count_in, bits_in}
use Rattle.bs_reach.specs.declared.reach.Outcome.{Outcome}
use Rattle.bs_reach.specs.declared.reach.Outcome.TheVariants as outcomes
use Rattle.bs_reach.specs.declared.reach.Reach.{Reach}
use Rattle.bs_reach_answer.specs.declared.place.NextLine.{NextLine}
use Rattle.bs_reach_answer.specs.declared.place.NextLine.TheVariants as places
use Rattle.bs_reach_answer.specs.Forms.{asked_in, outcome_in, plain_line_in}

-- ---- a line at its place

-- what the next line may be, and what is read so far
abbrev pub Progress : Type 0
Progress = NextLine × Reach

abbrev pub when : Bool → Progress → Option Progress
when allowed progress = if allowed then Some progress else None

-- behind the outcome: an execution of the length in which the state is reached, or the log
abbrev pub behind_outcome : Outcome → NextLine
behind_outcome (outcomes.Reached j) = places.State j
behind_outcome outcomes.Unreached = places.Log
behind_outcome (outcomes.Unknown j) = places.Log

-- behind a state, where so many inputs are left
abbrev pub behind_state : ℕ → NextLine
behind_state left = if left == 0 then places.Log else places.Input left

-- where so many log lines are left
abbrev pub log_place : ℕ → NextLine
log_place left = if left == 0 then places.End else places.Lines left

-- What a line gives at its place; none where it is of a form that the place does not allow. The head is three lines. Where the state
-- is reached there come a state and then, for each cycle, an input and a state. Then come the log, as many lines as it says, and `end`.
abbrev pub taken : NextLine → Reach → List ℕ → Option Progress
taken places.Title r text = when (bytes_eq text (codes "reach 1")) (places.Asked, r)
taken places.Asked r text = option_map (λ asked. (places.Outcome, record r { asked = asked.0; conflicts = asked.1 })) (asked_in text)
taken places.Outcome r text = option_map (λ outcome. (behind_outcome outcome, record r { outcome = outcome })) (outcome_in r.asked text)
taken (places.State left) r text = option_map (λ s. (behind_state left, record r { states = r.states ++ s ∷ [] })) (bits_in (codes "state") text)
taken (places.Input left) r text = option_map (λ x. (places.State (left - 1), record r { inputs = r.inputs ++ x ∷ [] })) (bits_in (codes "input") text)
taken places.Log r text = option_map (λ n. (log_place n, r)) (count_in (codes "log") text)
taken (places.Lines left) r text = option_map (λ l. (log_place (left - 1), record r { log = r.log ++ l ∷ [] })) (plain_line_in text)
taken places.End r text = when (bytes_eq text (codes "end")) (places.Done, r)
taken places.Done r text = None

abbrev pub is_done : NextLine → Bool
is_done places.Done = true
is_done _ = false

-- ---- the whole text

abbrev pub line_or_fault : ℕ → Option Progress → Result Progress ReportFault
line_or_fault number None = Err (faults.Line number)
line_or_fault number (Some progress) = Ok progress

-- what the whole line with this number gives
abbrev pub followed : ℕ → NextLine → Reach → List ℕ → Result Progress ReportFault
followed number place r text = if is_done place then Err faults.Extra else line_or_fault number (taken place r text)

-- what is wrong with a text that ends at a place, with these bytes behind its last line feed
abbrev pub end_fault : NextLine → List ℕ → Option ReportFault
end_fault place rest = if is_done place then (if length rest == 0 then None else Some faults.Extra) else Some faults.Short

-- what the bytes behind the last line feed give
abbrev pub ended : NextLine → Reach → List ℕ → Result Reach ReportFault
ended place r rest = if is_done place then (if length rest == 0 then Ok r else Err faults.Extra) else Err faults.Short

-- the pieces of a text from a place on, where the first of them has this number
abbrev pub answer_from : ℕ → NextLine → Reach → List (List ℕ) → Result Reach ReportFault
answer_from number place r [] = ended place r []
answer_from number place r (rest ∷ []) = ended place r rest
answer_from number place r (text ∷ next ∷ pieces) =
    followed number place r text >>= λ progress. answer_from (number + 1) progress.0 progress.1 (next ∷ pieces)

-- before the first line
abbrev pub nothing_read : Reach
nothing_read = record { asked = 0; conflicts = 0; outcome = outcomes.Unreached; states = []; inputs = []; log = [] }

-- the answer whose text this is, or the first fault
unfoldable pub answer_in : List ℕ → Result Reach ReportFault
answer_in bytes = answer_from 1 places.Title nothing_read (pieces_of bytes)
