-- What a text is to a request: an answer, or the report of a trace, or the reason of its refusal.
use Rattle.std.specs.Prelude.{ℕ, Bool, List, codes, nat_eq, Option, Some, None, Result, Ok, Err, if◌then◌else◌}
use Rattle.std.specs.List.{starts_with}
use Rattle.bs_bits.specs.Reading.{◌>>=◌}
use Rattle.bs_report.specs.declared.report.Report.{Report}
use Rattle.bs_reach.specs.declared.reach.Reach.{Reach}
use Rattle.bs_reach_answer.specs.Reading.{answer_in}
use Rattle.bs_reach_answer.specs.Shown.{execution_report}
use Rattle.bs_outside.specs.Plan.{Reason}
use Rattle.bs_top_files.specs.Causes.{Case, with_reason}
use Rattle.bs_top_files.specs.Readings.{report_read}
use Rattle.bs_reach_answer.specs.Words.{answer_reason, no_trace_reason}

-- ---- an answer

abbrev pub answer_read : (path text : List ℕ) → Result Reach (Reason Case)
answer_read path text = with_reason (answer_reason path text) (answer_in text)

-- ---- the trace of a report, or the execution of an answer

-- a text whose first line begins as that of an answer
abbrev pub is_answer : List ℕ → Bool
is_answer text = starts_with nat_eq text (codes "reach ")

-- the report, or this reason where there is none
abbrev pub report_or : Reason Case → Option Report → Result Report (Reason Case)
report_or reason None = Err reason
report_or reason (Some report) = Ok report

-- the execution of an answer, as a report that asked for no step
abbrev pub execution_read : List ℕ → Reach → Result Report (Reason Case)
execution_read path r = report_or (no_trace_reason path) (execution_report r)

-- the execution of the answer that a text is
abbrev pub executed_read : (path text : List ℕ) → Result Report (Reason Case)
executed_read path text = answer_read path text >>= execution_read path

-- a report, or an answer in its place
abbrev pub trace_read : (path text : List ℕ) → Result Report (Reason Case)
trace_read path text = if is_answer text then executed_read path text else report_read path text
