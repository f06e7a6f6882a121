-- The columns of an execution that a search for a state found.
use Rattle.std.specs.Prelude.{ℕ, ◌+◌, ◌==◌, List, ◌++◌, length, codes, decimal, if◌then◌else◌}
use Rattle.bs_report.specs.declared.report.Report.{Report}

-- the column of a state that was asked for stands out
abbrev pub cycle_front : Report → ℕ → List ℕ
cycle_front r i = if i + 1 == length r.states then codes "<th scope='col' class='x'>" else codes "<th scope='col'>"

-- the column of a state of an execution: its cycle
unfoldable pub cycle_column : Report → ℕ → List ℕ
cycle_column r i = cycle_front r i ++ (decimal i ++ codes "</th>")
