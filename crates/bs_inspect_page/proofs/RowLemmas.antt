-- Rows, one after another.
use Rattle.std.proofs.Common.{◌≡◌, ℕ, ◌<◌, ◌+◌, List, ◌++◌, length, map, take, get_or, ap, ◌∙◌}
use Rattle.std.specs.Prelude.{codes}
use Rattle.bs_inspect_view.specs.declared.signal.Signal.{Signal as CodeSignal}
use Rattle.bs_inspect_view.specs.Signals.{Signal, signal_in}
use Rattle.bs_inspect_html.specs.Cells.{Figure}
use Rattle.bs_inspect_html.specs.Names.{name_cell}
use Rattle.bs_inspect_html.proofs.PutLemmas.{five_put, three_put}
use Rattle.bs_inspect_report.proofs.TableLemmas.{piece_more}
use Rattle.bs_inspect_page.specs.Rows.{cells_text, group_text, row_text, signal_rows}

-- a signal's row more
pub rows_more : (f : Figure) (signals : List CodeSignal) (i : ℕ) (d : CodeSignal) (old before after : List ℕ) → i < length signals →
    before ≡ old ++ signal_rows f (map signal_in (take i signals)) → after ≡ before ++ row_text f (signal_in (get_or signals i d)) →
    after ≡ old ++ signal_rows f (map signal_in (take (i + 1) signals))
rows_more f signals i d old before after lt e g = piece_more (row_text f) signals i d old before after lt e g

-- ---- pieces of a row

pub row_put : (f : Figure) (s : Signal) (places old a b c : List ℕ) → places ≡ s.places → a ≡ old ++ name_cell f.signed s → b ≡ a ++ cells_text f places →
    c ≡ b ++ codes "</tr>\n" → c ≡ old ++ row_text f s
unfolding row_text
row_put f s places old a b c same e g h =
    three_put old (name_cell f.signed s) (cells_text f s.places) (codes "</tr>\n") a b c e (g ∙ ap (λ (ps : List ℕ). a ++ cells_text f ps) same) h

pub group_put : (heading : List ℕ) (f : Figure) (signals : List Signal) (old a b c d e : List ℕ) →
    a ≡ old ++ codes "<tbody><tr><th class='g' scope='rowgroup'>" → b ≡ a ++ heading → c ≡ b ++ codes "</th></tr>\n" →
    d ≡ c ++ signal_rows f signals → e ≡ d ++ codes "</tbody>\n" → e ≡ old ++ group_text heading f signals
unfolding group_text
group_put heading f signals old a b c d e g h i j k =
    five_put old (codes "<tbody><tr><th class='g' scope='rowgroup'>") heading (codes "</th></tr>\n") (signal_rows f signals) (codes "</tbody>\n") a b c d e g h i j k
