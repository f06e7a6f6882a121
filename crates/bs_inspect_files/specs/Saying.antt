-- The notes on a report that does not fit a netlist.
use Rattle.std.specs.Prelude.{ℕ, List, ◌++◌, codes, decimal}
use Rattle.bs_inspect_notes.specs.Names as N
use Rattle.bs_note_files.specs.Notes.{file_text, plain_text}
use Rattle.bs_inspect_report_texts.specs.declared.misfit.FitFault.{FitFault}
use Rattle.bs_inspect_report_texts.specs.declared.misfit.FitFault.TheVariants.{State, Input, Astray, Candidate}

-- what to do about a report that does not fit a netlist of its width
abbrev pub same_width_text : List ℕ
same_width_text = plain_text (codes "is it the report of this very netlist? `backspace audit` says where a report fails")

-- the note on a state of the trace that does not lead on
abbrev pub break_text : List ℕ → ℕ → List ℕ
break_text path i =
    file_text path (codes "state " ++ (decimal i ++ codes " of the trace does not lead to the next one under its input")) ++ same_width_text

-- the note on a stray candidate
abbrev pub candidate_text : List ℕ → ℕ → List ℕ
candidate_text path i =
    file_text path (codes "candidate " ++ (decimal i ++ codes " of step 1 does not lead to the present state under its input")) ++ same_width_text

-- the note on a report that does not fit
abbrev pub fault_text : List ℕ → FitFault → List ℕ
fault_text path (State i) = N.state_text path i
fault_text path (Input i) = N.trace_text path i
fault_text path (Astray i) = break_text path i
fault_text path (Candidate i) = candidate_text path i
