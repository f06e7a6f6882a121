-- The last list, where no recorded run comes into a state of it.
use Rattle.std.specs.Prelude.{ℕ, ◌+◌, ◌-◌, ◌==◌, Bool, List, [], ◌++◌, length, codes, decimal, slice_get, take, Option, Some, None, if◌then◌else◌}
use Rattle.std.specs.List.{flat_map, list_any, range_with_len}
use Rattle.bs_inspect_view.specs.Signals.{Signal}
use Rattle.bs_inspect_view.specs.Values.{value_text}
use Rattle.bs_report.specs.declared.report.Cand.{Cand}
use Rattle.bs_report.specs.declared.report.HitLine.{HitLine}
use Rattle.bs_report.specs.declared.report.Report.{Report}
use Rattle.bs_report.specs.declared.report.Step.{Step}
use Rattle.bs_inspect_html.specs.Names.{name_cell}
use Rattle.bs_inspect_report.specs.Signal.{bit_at, signal_bits}
use Rattle.bs_inspect_page.specs.Columns.{count_text}
use Rattle.bs_inspect_page.specs.declared.last_list.TheConstants.{MAX_SHOWN}

abbrev pub without_hit : Option HitLine → Step → Option Step
without_hit None step = Some step
without_hit (Some hit) step = None

abbrev pub unmet_step : Option Step → Option Step
unmet_step None = None
unmet_step (Some step) = without_hit step.hit step

-- the last step, if it has no hit
abbrev pub unmet_list : Report → Option Step
unmet_list r = unmet_step (slice_get r.steps (length r.steps - 1))

-- whether a bit of a signal is open
abbrev pub has_open : List Bool → List ℕ → Bool
has_open bits places = list_any (bit_at bits) places

-- ---- the text

-- the candidates that are shown
abbrev pub shown_of : Step → List Cand
shown_of step = take MAX_SHOWN step.cands

-- the value of a signal in a candidate
unfoldable pub cand_cell : List ℕ → Cand → List ℕ
cand_cell places c = codes "<td>" ++ (value_text (signal_bits c.state places) ++ codes "</td>")

abbrev pub cand_cells : List ℕ → List Cand → List ℕ
cand_cells places cands = flat_map (cand_cell places) cands

-- the name of a signal, marked where the signature reads it, and its value in each of these candidates
unfoldable pub cand_row : List Bool → List Cand → Signal → List ℕ
cand_row signed cands s = name_cell signed s ++ (cand_cells s.places cands ++ codes "</tr>\n")

abbrev pub cand_rows : List Bool → List Cand → List Signal → List ℕ
cand_rows signed cands signals = flat_map (cand_row signed cands) signals

-- candidates are numbered from 1, in the order of the list
unfoldable pub cand_column : ℕ → List ℕ
cand_column i = codes "<th scope='col'>" ++ (decimal (i + 1) ++ codes "</th>")

abbrev pub cand_columns : List Cand → List ℕ
cand_columns cands = flat_map cand_column (range_with_len 0 (length cands))

-- how many candidates there are, and how many are not shown
unfoldable pub list_front : Step → List ℕ
list_front step =
    codes "<p class='d'>Candidates: " ++ (count_text step ++ (codes ", not shown: " ++ (decimal (length step.cands - MAX_SHOWN)
    ++ codes ". Each is a state that may stand before the first one of the trace. Shown are flip-flops at which candidates differ.</p>\n<div tabindex='0' role='region' aria-labelledby='l'><table class='t n'><thead><tr><th scope='col'>flip-flop</th>")))

unfoldable pub filled_text : List Bool → Step → List Signal → List ℕ
filled_text signed step flops =
    list_front step ++ (cand_columns (shown_of step) ++ (codes "</tr></thead><tbody>\n" ++ (cand_rows signed (shown_of step) flops ++ codes "</tbody></table></div>\n")))

abbrev pub no_candidate : List ℕ
no_candidate = codes "<p class='d'>It has no candidate.</p>\n"

abbrev pub table_text : List Bool → Step → List Signal → List ℕ
table_text signed step flops = if length step.cands == 0 then no_candidate else filled_text signed step flops

unfoldable pub list_text : List Bool → Step → List Signal → List ℕ
list_text signed step flops = codes "<h2 id='l'>The last list</h2>\n" ++ table_text signed step flops
