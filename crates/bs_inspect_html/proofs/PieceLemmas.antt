-- Pieces of the front, one after another.
use Rattle.std.proofs.Common.{◌≡◌, ℕ, List, ◌++◌, length, Option, Result, Ok, Err, append_assoc, ap, ◌∙◌}
use Rattle.std.specs.Prelude.{OnOk, codes, decimal}
use Rattle.bs_net.specs.Parts.{Parts}
use Rattle.bs_net.specs.Netlist.{circuit_of}
use Rattle.bs_report.specs.declared.report.Budgets.{Budgets}
use Rattle.bs_report.specs.declared.report.Report.{Report}
use Rattle.bs_inspect_html.proofs.PutLemmas.{five_put, four_put, number_put, two_put}
use Rattle.bs_inspect_html.specs.Execution.{cycles_title, evidence_words, search_part, search_words}
use Rattle.bs_inspect_html.specs.Front.{audit_part, budgets_line, chip_line, head_text, title_text}
use Rattle.bs_inspect_html.specs.Paths.{shown_path}
use Rattle.bs_inspect_html.specs.Signed.{SignatureFile, job_files, styles_text}

-- what holds of a call that went well
pub on_ok : {T E X Y : Type 0} (r : Result T E) → (X → Y) → OnOk r X → OnOk r Y
on_ok (Ok t) to x = to x
on_ok (Err e) to x = tt

-- a number with a piece behind it, and more
pub before_put : (old s b r a z : List ℕ) → a ≡ old ++ (s ++ b) → z ≡ a ++ r → z ≡ old ++ (s ++ (b ++ r))
before_put old s b r a z e f = two_put old (s ++ b) r a z e f ∙ ap (λ (t : List ℕ). old ++ t) (append_assoc s b r)

-- a number between two pieces, and more
pub between_put : (old x s b r a z : List ℕ) → a ≡ old ++ (x ++ (s ++ b)) → z ≡ a ++ r → z ≡ old ++ (x ++ (s ++ (b ++ r)))
between_put old x s b r a z e f =
    before_put old x (s ++ b) r a z e f ∙ ap (λ (t : List ℕ). old ++ (x ++ t)) (append_assoc s b r)

pub chip_put : (raw : Parts) (n m : ℕ) (old a b : List ℕ) → n ≡ length (circuit_of raw).flops → m ≡ length (circuit_of raw).inputs →
    a ≡ old ++ (codes "<ul><li>" ++ (decimal n ++ codes " flip-flops, ")) → b ≡ a ++ (decimal m ++ codes " data inputs</li>\n") →
    b ≡ old ++ chip_line raw
unfolding chip_line
chip_put raw n m old a b flops inputs e f =
    between_put old (codes "<ul><li>") (decimal n) (codes " flip-flops, ") (decimal m ++ codes " data inputs</li>\n") a b e f
    ∙ (λ i. old ++ (codes "<ul><li>" ++ (decimal (flops i) ++ (codes " flip-flops, " ++ (decimal (inputs i) ++ codes " data inputs</li>\n")))))

pub budgets_put : (k : Budgets) (old a b c : List ℕ) → a ≡ old ++ (codes "<li>asked for: " ++ (decimal k.steps ++ codes " steps, ")) →
    b ≡ a ++ (decimal k.candidates ++ codes " candidates a list, ") → c ≡ b ++ (decimal k.conflicts ++ codes " lemmas a search</li></ul>\n") →
    c ≡ old ++ budgets_line k
unfolding budgets_line
budgets_put k old a b c e f g =
    between_put old (codes "<li>asked for: ") (decimal k.steps) (codes " steps, ")
    (decimal k.candidates ++ (codes " candidates a list, " ++ (decimal k.conflicts ++ codes " lemmas a search</li></ul>\n"))) a c e
    (before_put a (decimal k.candidates) (codes " candidates a list, ") (decimal k.conflicts ++ codes " lemmas a search</li></ul>\n") b c f g)

pub head_put : (r : Report) (s : Option SignatureFile) (old a b c d e : List ℕ) →
    a ≡ old ++ codes "<!doctype html>\n<html lang='en'><head><meta charset='utf-8'><meta name='viewport' content='width=device-width'>\n<title>" →
    b ≡ a ++ title_text r → c ≡ b ++ codes "</title>\n" → d ≡ c ++ styles_text s → e ≡ d ++ codes "</head><body>\n" → e ≡ old ++ head_text r s
unfolding head_text
head_put r s old a b c d e f g h i j =
    five_put old (codes "<!doctype html>\n<html lang='en'><head><meta charset='utf-8'><meta name='viewport' content='width=device-width'>\n<title>")
    (title_text r) (codes "</title>\n") (styles_text s) (codes "</head><body>\n") a b c d e f g h i j

pub audit_put : (netlist : List ℕ) (s : Option SignatureFile) (report old a b c d : List ℕ) →
    a ≡ old ++ codes "<p class='d'>This page shows what the report says. Whether the report is right, this command tells, with the job's own files:</p>\n<pre>backspace audit " →
    b ≡ a ++ shown_path netlist → c ≡ b ++ job_files s → d ≡ c ++ (shown_path report ++ codes "</pre>\n") → d ≡ old ++ audit_part netlist s report
unfolding audit_part
audit_put netlist s report old a b c d e f g h =
    four_put old
    (codes "<p class='d'>This page shows what the report says. Whether the report is right, this command tells, with the job's own files:</p>\n<pre>backspace audit ")
    (shown_path netlist) (job_files s) (shown_path report ++ codes "</pre>\n") a b c d e f g h

pub search_put : (k : Budgets) (netlist old a b c : List ℕ) →
    a ≡ old ++ (codes "<li>asked for: " ++ (decimal k.conflicts ++ codes " lemmas a search</li></ul>\n<p class='d'>This page shows what the answer says. The answer is right if the first command writes the same one, with the job's own files. The others write clauses and their refutation, by which other checkers see that no shorter execution ends in the state:</p>\n<pre>backspace reach ")) →
    b ≡ a ++ shown_path netlist → c ≡ b ++ (codes " STATE CYCLES --conflicts " ++ (decimal k.conflicts ++ codes "\n")) → c ≡ old ++ search_words k netlist
unfolding search_words
search_put k netlist old a b c e f g =
    between_put old (codes "<li>asked for: ") (decimal k.conflicts)
    (codes " lemmas a search</li></ul>\n<p class='d'>This page shows what the answer says. The answer is right if the first command writes the same one, with the job's own files. The others write clauses and their refutation, by which other checkers see that no shorter execution ends in the state:</p>\n<pre>backspace reach ")
    (shown_path netlist ++ (codes " STATE CYCLES --conflicts " ++ (decimal k.conflicts ++ codes "\n"))) a c e
    (two_put a (shown_path netlist) (codes " STATE CYCLES --conflicts " ++ (decimal k.conflicts ++ codes "\n")) b c f g)

pub part_put : (k : Budgets) (netlist answer old a b c d : List ℕ) → a ≡ old ++ search_words k netlist →
    b ≡ a ++ evidence_words (codes "backspace_inspect reach-cnf ") netlist answer →
    c ≡ b ++ evidence_words (codes "backspace_inspect reach-lrat ") netlist answer → d ≡ c ++ codes "</pre>\n" → d ≡ old ++ search_part k netlist answer
unfolding search_part
part_put k netlist answer old a b c d e f g h =
    four_put old (search_words k netlist) (evidence_words (codes "backspace_inspect reach-cnf ") netlist answer)
    (evidence_words (codes "backspace_inspect reach-lrat ") netlist answer) (codes "</pre>\n") a b c d e f g h

pub cycles_put : (r : Report) (n : ℕ) (old a b : List ℕ) → n ≡ length r.inputs → a ≡ old ++ codes "Cycles from reset: " → b ≡ a ++ decimal n →
    b ≡ old ++ cycles_title r
unfolding cycles_title
cycles_put r n old a b same e f =
    two_put old (codes "Cycles from reset: ") (decimal (length r.inputs)) a b e (number_put a n (length r.inputs) b same f)
