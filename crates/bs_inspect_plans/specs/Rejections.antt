-- What an answer that begins with the word `rejected` means, and what to do (docs/FORMATS.md).
use Rattle.std.specs.Prelude.{ℕ, nat_eq, Bool, List, codes, Option, Some, None, if◌then◌else◌}
use Rattle.std.specs.List.{starts_with}
use Rattle.std.specs.Option.{option_map}
use Rattle.bs_note_files.specs.Notes.{Saying, pair_text, saying}
use Rattle.bs_inspect_plans.specs.declared.rejection.Rejecting.{Rejecting}
use Rattle.bs_inspect_plans.specs.declared.rejection.Rejecting.TheVariants as R

abbrev pub begins : (text front : List ℕ) → Bool
begins text front = starts_with nat_eq text front

-- what forces bits is not told
abbrev pub why_meaning : List ℕ → Option Saying
why_meaning text =
    if begins text (codes "rejected moment")
    then Some (saying (codes "the trace has no state with the number behind --at") (codes "its states count from 0: `trace` tells them"))
    else (if begins text (codes "rejected input")
    then Some (saying (codes "the name is that of data inputs, of the clock, or of nets without a driver: nothing forces them")
    (codes "ask for a flip-flop, or for the net of a gate"))
    else (if begins text (codes "rejected open")
    then Some (saying (codes "the last state of the trace has no input, and the net of a gate is open there")
    (codes "ask for an earlier state by --at, or for a flip-flop"))
    else None))

-- there is no test bench
abbrev pub bench_meaning : List ℕ → Option Saying
bench_meaning text =
    if begins text (codes "rejected moment")
    then Some (saying (codes "the stimulus does not have the moment of the report's last hit") (codes "is it the stimulus of this very report?"))
    else (if begins text (codes "rejected state")
    then Some (saying (codes "under these inputs the netlist does not come from reset to the first state of the trace")
    (codes "is it the stimulus of this very report? a report without a hit has to begin at reset"))
    else None)

-- there is no evidence
abbrev pub evidence_meaning : List ℕ → Option Saying
evidence_meaning text =
    if begins text (codes "rejected format")
    then Some (saying (codes "the report has another depth than the signature") (codes "is it the signature file of this very report?"))
    else (if begins text (codes "rejected stop")
    then Some (saying (codes "there are more steps, or lengths, than were asked for") (codes "is the file unchanged?"))
    else (if begins text (codes "rejected step")
    then Some (saying (codes "the present state, or a signature, of the step with this number has another width")
    (codes "is it the report of this netlist and this signature?"))
    else (if begins text (codes "rejected nostep")
    then Some (saying (codes "the report has no step of the number behind --step, or the length behind --length was not tried")
    (codes "`steps` tells the steps of a report"))
    else (if begins text (codes "rejected log")
    then Some (saying (codes "the line of the log with this number, from 1, is the first that does not follow from those before it")
    (codes "is it of this netlist and this signature or state, and unchanged?"))
    else (if begins text (codes "rejected unfinished")
    then Some (saying (codes "the log does not finish this list or length, so that it does not show that there is no more")
    (codes "a list that was cut is not finished: `steps` tells how each ended"))
    else (if begins text (codes "rejected long")
    then Some (saying (codes "there are 2^32 clauses, assumptions or lines, or more") (codes "ask for one step by --step, or for one length by --length"))
    else None))))))

-- what the answer to such a request means
abbrev pub meaning_of : Rejecting → List ℕ → Option Saying
meaning_of R.Why text = why_meaning text
meaning_of R.Bench text = bench_meaning text
meaning_of R.Evidence text = evidence_meaning text

-- the note on it, where it is rejected
abbrev pub meaning_text : Saying → List ℕ
meaning_text s = pair_text s.sentence s.label

abbrev pub rejected_text : Rejecting → List ℕ → Option (List ℕ)
rejected_text what text = option_map meaning_text (meaning_of what text)
