-- The table of the steps.
use Rattle.std.specs.Prelude.{ℕ, ◌+◌, ◌-◌, ◌==◌, List, [], ◌++◌, length, codes, decimal, slice_get, slice_index_or, Option, Some, None, if◌then◌else◌}
use Rattle.std.specs.List.{flat_map, range_with_len}
use Rattle.bs_report.specs.declared.report.Report.{Report}
use Rattle.bs_report.specs.declared.report.Step.{Step}
use Rattle.bs_inspect_report.specs.Lemmas.{lemmas_logged}
use Rattle.bs_inspect_report.specs.Steps.{differing, list_word}
use Rattle.bs_inspect_page.specs.Columns.{moment_text}

abbrev pub goes_on_text : Option Step → List ℕ
goes_on_text None = codes "none"
goes_on_text (Some step) = moment_text step.hit

-- where a step begins: the first at the dump, and each further one at the hit of the one before
abbrev pub from_text : Report → ℕ → List ℕ
from_text r i = if i == 0 then codes "dump" else goes_on_text (slice_get r.steps (i - 1))

abbrev pub next_cell : List ℕ
next_cell = codes "</td><td>"

-- the number of a step, and where it begins
unfoldable pub begin_cells : Report → ℕ → List ℕ
begin_cells r i = codes "<tr><th scope='row'>" ++ (decimal (i + 1) ++ (codes "</th><td>" ++ from_text r i))

-- how many candidates it lists, and how many flip-flops differ among them
unfoldable pub step_list : Step → List ℕ
step_list step = next_cell ++ (decimal (length step.cands) ++ (next_cell ++ decimal (differing step.cands)))

-- how its list ended, where it goes on, and how many lemmas it logged
unfoldable pub step_end : ℕ → Step → List ℕ
step_end lemmas step =
    next_cell ++ (list_word step.end ++ (next_cell ++ (moment_text step.hit ++ (next_cell ++ (decimal lemmas ++ codes "</td></tr>\n")))))

abbrev pub step_text : Report → ℕ → ℕ → Step → List ℕ
step_text r i lemmas step = begin_cells r i ++ (step_list step ++ step_end lemmas step)

abbrev pub step_if : Report → ℕ → List ℕ → Option Step → List ℕ
step_if r i lemmas None = []
step_if r i lemmas (Some step) = step_text r i (slice_index_or lemmas i 0) step

abbrev pub step_at : Report → List ℕ → ℕ → List ℕ
step_at r lemmas i = step_if r i lemmas (slice_get r.steps i)

-- a row for each step
unfoldable pub steps_rows : Report → List ℕ → List ℕ
steps_rows r lemmas = flat_map (step_at r lemmas) (range_with_len 0 (length r.steps))

abbrev pub steps_front : List ℕ
steps_front =
    codes "<h2 id='s'>Steps back</h2>\n<p class='d'>Each step lists the states that may stand before the one that it begins at, and goes on at the first recorded moment among them.</p>\n<div tabindex='0' role='region' aria-labelledby='s'><table class='t'><thead><tr><th scope='col'>step</th><th scope='col'>begins at</th><th scope='col'>candidates</th><th scope='col'>flip-flops that differ</th><th scope='col'>list</th><th scope='col'>goes on at run:cycle</th><th scope='col'>lemmas</th></tr></thead><tbody>\n"

unfoldable pub steps_part : Report → List ℕ
steps_part r = steps_front ++ (steps_rows r (lemmas_logged r.log) ++ codes "</tbody></table></div>\n")
