-- The last list.
use Rattle.std.proofs.Common.{◌≡◌, ℕ, ◌<◌, ◌+◌, ◌-◌, Bool, List, ◌++◌, length, map, take, get_or, subst, ap, ◌∙◌, Option}
use Rattle.std.specs.Prelude.{Vec, Result, Ok, Err, IfOk, codes, decimal}
use Rattle.std.specs.declared.alloc.Global.{Global}
use Rattle.bs_bits.specs.declared.memory.NoMemory.{NoMemory}
use Rattle.bs_net.specs.Parts.{Parts}
use Rattle.bs_inspect_view.specs.declared.signal.Signal.{Signal as CodeSignal}
use Rattle.bs_inspect_view.specs.Signals.{Signal, signal_in}
use Rattle.bs_report.specs.declared.report.Cand.{Cand}
use Rattle.bs_report.specs.declared.report.Report.{Report}
use Rattle.bs_report.specs.declared.report.Step.{Step}
use Rattle.bs_inspect_html.proofs.PutLemmas.{five_put, three_put}
use Rattle.bs_inspect_html.specs.Names.{name_cell}
use Rattle.bs_inspect_report.proofs.TableLemmas.{piece_more}
use Rattle.bs_inspect_page.specs.Columns.{count_text}
use Rattle.bs_inspect_page.specs.declared.last_list.TheConstants.{MAX_SHOWN}
use Rattle.bs_inspect_page.specs.Last.{cand_cells, cand_columns, cand_row, cand_rows, filled_text, list_front, shown_of, unmet_list}
use Rattle.bs_inspect_page.specs.Page.{PageOptions, ShowsAny, ShowsLast}

-- a signal's row more
pub rows_more : (signed : List Bool) (cands : List Cand) (signals : List CodeSignal) (i : ℕ) (d : CodeSignal) (old before after : List ℕ) → i < length signals →
    before ≡ old ++ cand_rows signed cands (map signal_in (take i signals)) → after ≡ before ++ cand_row signed cands (signal_in (get_or signals i d)) →
    after ≡ old ++ cand_rows signed cands (map signal_in (take (i + 1) signals))
rows_more signed cands signals i d old before after lt e f = piece_more (cand_row signed cands) signals i d old before after lt e f

-- the list of the last step
pub last_there : (result : Result (Vec ℕ Global) NoMemory) (raw : Parts) (r : Report) (a : PageOptions) (signed : List Bool)
    (step : Option Step) → step ≡ unmet_list r → IfOk result (λ text. ShowsAny raw a signed step text.items) →
    IfOk result (λ text. ShowsLast raw r a signed text.items)
last_there (Ok text) raw r a signed step e shows = record { is = subst (λ (s : Option Step). ShowsAny raw a signed s text.items) e shows }
last_there (Err refused) raw r a signed step e shows = shows

-- ---- pieces of the list

pub row_put : (signed : List Bool) (cands : List Cand) (s : Signal) (places old a b c : List ℕ) → places ≡ s.places → a ≡ old ++ name_cell signed s →
    b ≡ a ++ cand_cells places cands → c ≡ b ++ codes "</tr>\n" → c ≡ old ++ cand_row signed cands s
unfolding cand_row
row_put signed cands s places old a b c same e g h =
    three_put old (name_cell signed s) (cand_cells s.places cands) (codes "</tr>\n") a b c e (g ∙ ap (λ (ps : List ℕ). a ++ cand_cells ps cands) same) h

pub filled_put : (signed : List Bool) (step : Step) (cands : List Cand) (flops : List Signal) (old a b c d e : List ℕ) → cands ≡ shown_of step → a ≡ old ++ list_front step →
    b ≡ a ++ cand_columns cands → c ≡ b ++ codes "</tr></thead><tbody>\n" → d ≡ c ++ cand_rows signed cands flops →
    e ≡ d ++ codes "</tbody></table></div>\n" → e ≡ old ++ filled_text signed step flops
unfolding filled_text
filled_put signed step cands flops old a b c d e same f g h i j =
    five_put old (list_front step) (cand_columns (shown_of step)) (codes "</tr></thead><tbody>\n") (cand_rows signed (shown_of step) flops)
    (codes "</tbody></table></div>\n") a b c d e f (g ∙ ap (λ (cs : List Cand). a ++ cand_columns cs) same) h
    (i ∙ ap (λ (cs : List Cand). c ++ cand_rows signed cs flops) same) j

pub front_put : (step : Step) (n : ℕ) (old a b c : List ℕ) → n ≡ length step.cands - MAX_SHOWN → a ≡ old ++ codes "<p class='d'>Candidates: " →
    b ≡ a ++ count_text step →
    c ≡ b ++ (codes ", not shown: " ++ (decimal n ++ codes ". Each is a state that may stand before the first one of the trace. Shown are flip-flops at which candidates differ.</p>\n<div tabindex='0' role='region' aria-labelledby='l'><table class='t n'><thead><tr><th scope='col'>flip-flop</th>")) →
    c ≡ old ++ list_front step
unfolding list_front
front_put step n old a b c same f g h =
    three_put old (codes "<p class='d'>Candidates: ") (count_text step)
    (codes ", not shown: " ++ (decimal n ++ codes ". Each is a state that may stand before the first one of the trace. Shown are flip-flops at which candidates differ.</p>\n<div tabindex='0' role='region' aria-labelledby='l'><table class='t n'><thead><tr><th scope='col'>flip-flop</th>"))
    a b c f g h
    ∙ ap
    (λ (k : ℕ). old ++ (codes "<p class='d'>Candidates: " ++ (count_text step ++ (codes ", not shown: " ++ (decimal k
    ++ codes ". Each is a state that may stand before the first one of the trace. Shown are flip-flops at which candidates differ.</p>\n<div tabindex='0' role='region' aria-labelledby='l'><table class='t n'><thead><tr><th scope='col'>flip-flop</th>"))))) same
