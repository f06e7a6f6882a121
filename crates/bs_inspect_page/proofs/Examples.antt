-- An execution of two cycles, the last lists of reports that stopped with `nohit`, `empty` and `candidates`, and what a signature reads.
use Rattle.std.proofs.Common.{◌≡◌, ℕ, Bool, true, false, List, [], ◌∷◌, ◌++◌, length, map, Option, Some, None, refl}
use Rattle.std.specs.Prelude.{codes}
use Rattle.std.specs.Fmt.{digits}
use Rattle.std.specs.List.{range_with_len}
use Rattle.bs_inspect_view.specs.Signals.{Signal}
use Rattle.bs_report.specs.declared.report.Cand.{Cand}
use Rattle.bs_report.specs.declared.report.HitLine.{HitLine}
use Rattle.bs_report.specs.declared.report.ListEnd.{ListEnd}
use Rattle.bs_report.specs.declared.report.ListEnd.TheVariants.{Finished, Candidates}
use Rattle.bs_report.specs.declared.report.Report.{Report}
use Rattle.bs_report.specs.declared.report.Step.{Step}
use Rattle.bs_report.specs.declared.report.Stop.{Stop as StopCause}
use Rattle.bs_report.specs.declared.report.Stop.TheVariants as stops
use Rattle.bs_inspect_html.specs.Names.{name_cell, shown_name}
use Rattle.bs_inspect_page.specs.Columns.{columns_text, count_text}
use Rattle.bs_inspect_page.specs.Execution.{cycle_column}
use Rattle.bs_inspect_page.specs.Last.{cand_cell, cand_column, cand_row, filled_text, list_front, list_text, unmet_list}
use Rattle.bs_inspect_page.specs.Page.{PageOptions, listed_of, trace_front}

-- ---- an execution

abbrev two_cycles : Report
two_cycles =
    record {
      depth = 1;
      budgets = record { steps = 0; candidates = 0; conflicts = 100 };
      steps = [];
      stop = stops.Reset;
      states = (false ∷ []) ∷ (true ∷ []) ∷ (true ∷ []) ∷ [];
      inputs = (true ∷ []) ∷ (false ∷ []) ∷ [];
      free = [];
      log = [];
    }

found_columns :
    columns_text two_cycles
    ≡ codes "<thead><tr><th scope='col'>cycle</th><th scope='col'>0</th><th scope='col'>1</th><th scope='col' class='x'>2</th></tr></thead>\n"
unfolding digits columns_text cycle_column
found_columns = refl

-- an execution has no list
found_lists : unmet_list two_cycles ≡ None
found_lists = refl

-- ---- the last list

abbrev cand : List Bool → Cand
cand state = record { state = state; input = []; before = None }

abbrev step_with : List Cand → ListEnd → Option HitLine → Step
step_with cands end hit = record { present = record { bits = true ∷ true ∷ []; free = [] }; stored = []; older = None; cands = cands; end = end; hit = hit }

abbrev stopped : StopCause → Step → Report
stopped cause step =
    record {
      depth = 1;
      budgets = record { steps = 4; candidates = 20; conflicts = 100 };
      steps = step ∷ [];
      stop = cause;
      states = (true ∷ true ∷ []) ∷ [];
      inputs = [];
      free = [];
      log = [];
    }

abbrev two_cands : List Cand
two_cands = cand (true ∷ false ∷ []) ∷ cand (true ∷ true ∷ []) ∷ []

abbrev bit : List ℕ → ℕ → Signal
bit name place = record { base = name; high = None; places = place ∷ [] }

abbrev first_hundred : PageOptions
first_hundred = record { netlist = []; report = []; signature = None; only = []; most = 100 }

-- the candidates differ at the second flip-flop alone
listed : listed_of first_hundred (step_with two_cands (Finished 9) None) (bit (codes "a") 0 ∷ bit (codes "q") 1 ∷ []) ≡ bit (codes "q") 1 ∷ []
listed = refl

nohit_list : unmet_list (stopped stops.Nohit (step_with two_cands (Finished 9) None)) ≡ Some (step_with two_cands (Finished 9) None)
nohit_list = refl

nohit_text :
    list_text [] (step_with two_cands (Finished 9) None) (bit (codes "q") 1 ∷ [])
    ≡ codes "<h2 id='l'>The last list</h2>\n<p class='d'>Candidates: 2, not shown: 0. Each is a state that may stand before the first one of the trace. Shown are flip-flops at which candidates differ.</p>\n<div tabindex='0' role='region' aria-labelledby='l'><table class='t n'><thead><tr><th scope='col'>flip-flop</th><th scope='col'>1</th><th scope='col'>2</th></tr></thead><tbody>\n<tr><th scope='row'>q</th><td>0</td><td>1</td></tr>\n</tbody></table></div>\n"
unfolding digits list_text filled_text list_front count_text cand_column cand_row name_cell shown_name cand_cell
nohit_text = refl

empty_text : list_text [] (step_with [] (Finished 9) None) [] ≡ codes "<h2 id='l'>The last list</h2>\n<p class='d'>It has no candidate.</p>\n"
unfolding list_text
empty_text = refl

-- a list that was cut, of which one candidate is not shown
cut_front :
    list_front (step_with (map (λ i. cand []) (range_with_len 0 17)) Candidates None)
    ≡ codes "<p class='d'>Candidates: 17+, not shown: 1. Each is a state that may stand before the first one of the trace. Shown are flip-flops at which candidates differ.</p>\n<div tabindex='0' role='region' aria-labelledby='l'><table class='t n'><thead><tr><th scope='col'>flip-flop</th>"
unfolding digits list_front count_text
cut_front = refl

-- a list that a recorded run comes into is not shown
hit_list : unmet_list (stopped stops.Length (step_with two_cands (Finished 9) (Some record { run = 1; cycle = 3; state = true ∷ false ∷ [] }))) ≡ None
hit_list = refl

-- ---- a signature

-- the flip-flop that the signature reads is marked in the list
signed_text :
    list_text (false ∷ true ∷ []) (step_with two_cands (Finished 9) None) (bit (codes "q") 1 ∷ [])
    ≡ codes "<h2 id='l'>The last list</h2>\n<p class='d'>Candidates: 2, not shown: 0. Each is a state that may stand before the first one of the trace. Shown are flip-flops at which candidates differ.</p>\n<div tabindex='0' role='region' aria-labelledby='l'><table class='t n'><thead><tr><th scope='col'>flip-flop</th><th scope='col'>1</th><th scope='col'>2</th></tr></thead><tbody>\n<tr><th scope='row' class='m'>q <span>signature</span></th><td>0</td><td>1</td></tr>\n</tbody></table></div>\n"
unfolding digits list_text filled_text list_front count_text cand_column cand_row name_cell shown_name cand_cell
signed_text = refl

-- without a signature the trace begins as it does here
plain_front : trace_front two_cycles None
    ≡ codes "<h2 id='t'>Trace</h2>\n<p class='d'>Cycle 0 is reset, and the last state is the one that was asked for. A vector is a number of base 16.</p>\n<div class='late' tabindex='0' role='region' aria-labelledby='t'><table class='w'>\n<thead><tr><th scope='col'>cycle</th><th scope='col'>0</th><th scope='col'>1</th><th scope='col' class='x'>2</th></tr></thead>\n"
unfolding digits trace_front columns_text cycle_column
plain_front = refl
