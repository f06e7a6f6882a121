-- The columns of the trace: how many cycles a state stands before the dump, where it was recorded, and how many candidates its list has; or
-- the cycle of an execution.
use Rattle.std.specs.Prelude.{ℕ, ◌+◌, ◌-◌, ◌==◌, List, [], ◌++◌, length, codes, decimal, slice_get, Option, Some, None, if◌then◌else◌}
use Rattle.std.specs.List.{flat_map, range_with_len}
use Rattle.bs_report.specs.declared.report.HitLine.{HitLine}
use Rattle.bs_report.specs.declared.report.ListEnd.{ListEnd}
use Rattle.bs_report.specs.declared.report.ListEnd.TheVariants.{Finished, Candidates, Conflicts}
use Rattle.bs_report.specs.declared.report.Report.{Report}
use Rattle.bs_report.specs.declared.report.Step.{Step}
use Rattle.bs_inspect_page.specs.Execution.{cycle_column}
use Rattle.bs_inspect_page.specs.Opens.{step_of}
use Rattle.bs_inspect_report.specs.Execution.{is_execution}

-- run and cycle
abbrev pub moment_text : Option HitLine → List ℕ
moment_text None = codes "none"
moment_text (Some hit) = decimal hit.run ++ (codes ":" ++ decimal hit.cycle)

-- a list that was cut may have more candidates
abbrev pub more_word : ListEnd → List ℕ
more_word (Finished id) = []
more_word Candidates = codes "+"
more_word Conflicts = codes "+"

-- how many candidates a list has
unfoldable pub count_text : Step → List ℕ
count_text step = decimal (length step.cands) ++ more_word step.end

unfoldable pub listed_text : Step → List ℕ
listed_text step =
    codes "<span class='r'>" ++ (moment_text step.hit ++ (codes "</span><span>" ++ (count_text step ++ codes "</span></th>")))

abbrev pub origin_text : Option Step → List ℕ
origin_text None = codes "</th>"
origin_text (Some step) = listed_text step

abbrev pub dump_column : List ℕ
dump_column = codes "<th scope='col' class='x'>dump</th>"

-- the column of a state that is recorded
unfoldable pub far_column : Report → ℕ → List ℕ
far_column r i = codes "<th scope='col'>-" ++ (decimal (length r.states - (i + 1)) ++ origin_text (step_of r i))

-- the column of a state of a backtrace
abbrev pub found_column : Report → ℕ → List ℕ
found_column r i =
    if i + 1 == length r.states then dump_column else far_column r i

-- the column of a state
abbrev pub column_text : Report → ℕ → List ℕ
column_text r i = if is_execution r then cycle_column r i else found_column r i

-- what the columns say
abbrev pub corner_text : Report → List ℕ
corner_text r =
    if is_execution r then codes "<thead><tr><th scope='col'>cycle</th>"
    else codes "<thead><tr><th scope='col'>cycles before the dump<span>recorded as run:cycle</span><span>candidates of the list</span></th>"

unfoldable pub columns_text : Report → List ℕ
columns_text r =
    corner_text r
    ++ (flat_map (column_text r) (range_with_len 0 (length r.states)) ++ codes "</tr></thead>\n")
