-- The plans over the file of an answer, and over that of a report or an answer.
use Rattle.std.specs.Prelude.{ℕ, List}
use Rattle.bs_report.specs.declared.report.Report.{Report}
use Rattle.bs_reach.specs.declared.reach.Reach.{Reach}
use Rattle.bs_outside.specs.declared.file.File.TheVariants as files
use Rattle.bs_outside.specs.Plan.{Plan, ◌>>=◌, fetched, read_as}
use Rattle.bs_top_files.specs.Causes.{Case}
use Rattle.bs_reach_answer.specs.Readings.{answer_read, trace_read}

-- the answer of a file
abbrev pub answer_of : List ℕ → Plan Case Reach
answer_of path = do
  text ← fetched files.Report path
  read_as files.Report (answer_read path text)

-- the report of a file, or the execution of the answer that it holds
abbrev pub trace_of : List ℕ → Plan Case Report
trace_of path = do
  text ← fetched files.Report path
  read_as files.Report (trace_read path text)
