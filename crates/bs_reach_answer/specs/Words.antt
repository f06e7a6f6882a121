-- What is said of a text that is no answer of `reach`, or of an answer without an execution (docs/FORMATS.md, "The answer of reach").
use Rattle.std.specs.Prelude.{ℕ, List, [], codes}
use Rattle.bs_report.specs.declared.fault.ReportFault.{ReportFault}
use Rattle.bs_report.specs.declared.fault.ReportFault.TheVariants as faults
use Rattle.bs_note_files.specs.Notes.{Saying, saying, file_text}
use Rattle.bs_outside.specs.Plan.{Reason, any_of}
use Rattle.bs_top_files.specs.Causes.{Case, at_line, stated}
use Rattle.bs_top_files.specs.Refusals.{report_words}

abbrev pub answer_saying : Saying
answer_saying =
    saying (codes "this line is not of a form that its place in an answer allows")
    (codes "an answer is what `reach` writes, unchanged (docs/FORMATS.md, The answer of reach)")

abbrev pub short_text : List ℕ → List ℕ
short_text path = file_text path (codes "the text ends before the line `end` of an answer is whole")

abbrev pub extra_text : List ℕ → List ℕ
extra_text path = file_text path (codes "bytes follow the line `end` of the answer: a file holds one answer and nothing else")

-- why a text with this name is no answer; a line counts from 1
abbrev pub answer_reason : (path text : List ℕ) → ReportFault → Reason Case
answer_reason path text (faults.Line number) = any_of (at_line (report_words (faults.Line number)) path text number answer_saying)
answer_reason path text faults.Short = any_of (stated (report_words faults.Short) (short_text path))
answer_reason path text faults.Extra = any_of (stated (report_words faults.Extra) (extra_text path))
answer_reason path text faults.NoMemory = any_of (stated (report_words faults.NoMemory) [])

-- an answer that has no execution
abbrev pub no_trace_words : List ℕ
no_trace_words = codes "NoTrace"

abbrev pub no_trace_text : List ℕ → List ℕ
no_trace_text path = file_text path (codes "the answer has no execution: the state was not reached, or the search ended undecided")

abbrev pub no_trace_reason : List ℕ → Reason Case
no_trace_reason path = any_of (stated no_trace_words (no_trace_text path))
