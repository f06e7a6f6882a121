-- Pieces of the page's parts, one after another.
use Rattle.std.proofs.Common.{◌≡◌, ℕ, List, ◌+◌, ◌-◌, ◌++◌, length, ap, ◌∙◌, Option}
use Rattle.std.specs.Prelude.{codes, decimal}
use Rattle.bs_report.specs.declared.report.Report.{Report}
use Rattle.bs_report.specs.declared.report.Step.{Step}
use Rattle.bs_inspect_report.specs.Steps.{differing, list_word}
use Rattle.bs_inspect_html.proofs.PutLemmas.{five_put, number_put, three_put}
use Rattle.bs_inspect_html.proofs.PieceLemmas.{between_put}
use Rattle.bs_inspect_page.specs.Columns.{far_column, moment_text, origin_text}
use Rattle.bs_inspect_page.specs.Opens.{step_of}
use Rattle.bs_inspect_page.specs.Steps.{begin_cells, from_text, next_cell, step_end, step_list}

pub begin_put : (r : Report) (i n : ℕ) (old a b : List ℕ) → n ≡ i + 1 → a ≡ old ++ (codes "<tr><th scope='row'>" ++ (decimal n ++ codes "</th><td>")) →
    b ≡ a ++ from_text r i → b ≡ old ++ begin_cells r i
unfolding begin_cells
begin_put r i n old a b same e f =
    between_put old (codes "<tr><th scope='row'>") (decimal n) (codes "</th><td>") (from_text r i) a b e f
    ∙ ap (λ (k : ℕ). old ++ (codes "<tr><th scope='row'>" ++ (decimal k ++ (codes "</th><td>" ++ from_text r i)))) same

pub list_put : (s : Step) (n m : ℕ) (old a b : List ℕ) → n ≡ length s.cands → m ≡ differing s.cands →
    a ≡ old ++ (codes "</td><td>" ++ (decimal n ++ codes "</td><td>")) → b ≡ a ++ decimal m → b ≡ old ++ step_list s
unfolding step_list
list_put s n m old a b many differ e f =
    between_put old (codes "</td><td>") (decimal n) (codes "</td><td>") (decimal m) a b e f
    ∙ (λ i. old ++ (codes "</td><td>" ++ (decimal (many i) ++ (codes "</td><td>" ++ decimal (differ i)))))

pub end_put : (lemmas : ℕ) (s : Step) (old a b c d e : List ℕ) → a ≡ old ++ codes "</td><td>" → b ≡ a ++ list_word s.end → c ≡ b ++ codes "</td><td>" →
    d ≡ c ++ moment_text s.hit → e ≡ d ++ (codes "</td><td>" ++ (decimal lemmas ++ codes "</td></tr>\n")) → e ≡ old ++ step_end lemmas s
unfolding step_end
end_put lemmas s old a b c d e f g h i j =
    five_put old (codes "</td><td>") (list_word s.end) (codes "</td><td>") (moment_text s.hit)
    (codes "</td><td>" ++ (decimal lemmas ++ codes "</td></tr>\n")) a b c d e f g h i j

pub far_put : (r : Report) (i n : ℕ) (step : Option Step) (old a b c : List ℕ) → n ≡ length r.states - (i + 1) → step ≡ step_of r i →
    a ≡ old ++ codes "<th scope='col'>-" → b ≡ a ++ decimal n → c ≡ b ++ origin_text step → c ≡ old ++ far_column r i
unfolding far_column
far_put r i n step old a b c same own e f g =
    three_put old (codes "<th scope='col'>-") (decimal (length r.states - (i + 1))) (origin_text (step_of r i)) a b c e
    (number_put a n (length r.states - (i + 1)) b same f) (g ∙ ap (λ (s : Option Step). b ++ origin_text s) own)
