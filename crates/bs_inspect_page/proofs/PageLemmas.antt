-- The page, where the bits are open at which other candidates differ.
use Rattle.std.proofs.Common.{◌≡◌, ℕ, Bool, List, ◌++◌, ap, subst, ◌∙◌, Option}
use Rattle.std.specs.Prelude.{Vec, Result, IfOk, codes}
use Rattle.std.specs.declared.alloc.Global.{Global}
use Rattle.bs_bits.specs.declared.memory.NoMemory.{NoMemory}
use Rattle.bs_net.specs.Parts.{Parts}
use Rattle.bs_report.specs.declared.report.Report.{Report}
use Rattle.bs_inspect_page.specs.Opens.{opens_of}
use Rattle.bs_inspect_view.specs.Signals.{Signal}
use Rattle.bs_inspect_page.specs.Rows.{group_text}
use Rattle.bs_inspect_html.proofs.PutLemmas.{four_put, three_put}
use Rattle.bs_inspect_report.specs.Lemmas.{lemmas_logged}
use Rattle.bs_inspect_html.specs.Front.{front_text}
use Rattle.bs_inspect_html.specs.Signed.{SignatureFile}
use Rattle.bs_inspect_html.specs.Cells.{Figure}
use Rattle.bs_inspect_html.specs.Reads.{signed_of}
use Rattle.bs_inspect_page.specs.Page.{PageOptions, ShowsFigure, ShowsReport, end_text, flops_heading, input_figure, inputs_heading, page_text, state_figure, steps_shown, trace_front, trace_text}
use Rattle.bs_inspect_page.specs.Steps.{steps_front, steps_part, steps_rows}

pub opens_there : (result : Result (Vec ℕ Global) NoMemory) (raw : Parts) (r : Report) (a : PageOptions) (opens : List (List Bool)) →
    opens ≡ opens_of r → IfOk result (λ text. ShowsFigure raw r a (state_figure r opens (signed_of a.signature)) text.items) →
    IfOk result (λ text. ShowsReport raw r a text.items)
opens_there result raw r a opens e shows =
    subst (λ (o : List (List Bool)). IfOk result (λ text. ShowsFigure raw r a (state_figure r o (signed_of a.signature)) text.items)) e shows

-- the flip-flops that the signature reads
pub signed_there : (result : Result (Vec ℕ Global) NoMemory) (raw : Parts) (r : Report) (a : PageOptions) (opens : List (List Bool)) (signed : List Bool) →
    signed ≡ signed_of a.signature → IfOk result (λ text. ShowsFigure raw r a (state_figure r opens signed) text.items) →
    IfOk result (λ text. ShowsFigure raw r a (state_figure r opens (signed_of a.signature)) text.items)
signed_there result raw r a opens signed e shows =
    subst (λ (bits : List Bool). IfOk result (λ text. ShowsFigure raw r a (state_figure r opens bits) text.items)) e shows

-- ---- pieces of the page

pub trace_put : (r : Report) (s : Option SignatureFile) (f : Figure) (flops inputs : List Signal) (old a b c d : List ℕ) → a ≡ old ++ trace_front r s →
    b ≡ a ++ group_text inputs_heading (input_figure r) inputs → c ≡ b ++ group_text flops_heading f flops →
    d ≡ c ++ end_text r → d ≡ old ++ trace_text r s f flops inputs
unfolding trace_text
trace_put r s figure flops inputs old a b c d e f g h =
    four_put old (trace_front r s) (group_text inputs_heading (input_figure r) inputs) (group_text flops_heading figure flops) (end_text r)
    a b c d e f g h

pub page_put : (q : PageOptions) (raw : Parts) (r : Report) (f : Figure) (last : List ℕ) (flops inputs : List Signal) (old a b c d : List ℕ) →
    a ≡ old ++ front_text raw r q.netlist q.signature q.report → b ≡ a ++ steps_shown r → c ≡ b ++ last → d ≡ c ++ trace_text r q.signature f flops inputs →
    d ≡ old ++ page_text q raw r f last flops inputs
unfolding page_text
page_put q raw r figure last flops inputs old a b c d e f g h =
    four_put old (front_text raw r q.netlist q.signature q.report) (steps_shown r) last (trace_text r q.signature figure flops inputs) a b c d e f g h

pub steps_put : (r : Report) (counts slice old a b c : List ℕ) → counts ≡ lemmas_logged r.log → slice ≡ counts → a ≡ old ++ steps_front →
    b ≡ a ++ steps_rows r slice → c ≡ b ++ codes "</tbody></table></div>\n" → c ≡ old ++ steps_part r
unfolding steps_part
steps_put r counts slice old a b c is same e f g =
    three_put old steps_front (steps_rows r (lemmas_logged r.log)) (codes "</tbody></table></div>\n") a b c e
    (f ∙ ap (λ (ns : List ℕ). a ++ steps_rows r ns) (same ∙ is)) g
