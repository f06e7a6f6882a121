-- The cells of a row, one after another.
use Rattle.std.proofs.Common.{◌≡◌, ℕ, ◌<◌, ◌+◌, Bool, List, [], ◌∷◌, ◌++◌, length, map, take, get_or, ap, sym, ◌∙◌, append_assoc, slice_get, Option, Some}
use Rattle.std.specs.Prelude.{slice_index_or}
use Rattle.std.specs.List.{flat_map}
use Rattle.std.proofs.lemmas.Grind.{flat_map-append}
use Rattle.std.proofs.lemmas.List.{take_more, map-append, append-nil}
use Rattle.bs_report.specs.declared.report.Report.{Report}
use Rattle.bs_report.specs.declared.report.Step.{Step}
use Rattle.bs_inspect_view.specs.declared.signal.Signal.{Signal as CodeSignal}
use Rattle.bs_inspect_view.specs.Signals.{Signal, signal_in}
use Rattle.bs_inspect_report.specs.Table.{name_cell, name_cells, row_of, step_row, step_row_at, value_cell, value_cells}

-- a signal's piece more
pub piece_more : (piece : Signal → List ℕ) (signals : List CodeSignal) (i : ℕ) (d : CodeSignal) (old before after : List ℕ) → i < length signals →
    before ≡ old ++ flat_map piece (map signal_in (take i signals)) → after ≡ before ++ piece (signal_in (get_or signals i d)) →
    after ≡ old ++ flat_map piece (map signal_in (take (i + 1) signals))
piece_more piece signals i d old before after lt e f =
    let own : Signal = signal_in (get_or signals i d) in
    let rest : List Signal = map signal_in (take i signals) in
    let more : map signal_in (take (i + 1) signals) ≡ rest ++ own ∷ [] =
    ap (map signal_in) (take_more signals i d lt) ∙ map-append signal_in (take i signals) (get_or signals i d ∷ []) in
    let put : flat_map piece (map signal_in (take (i + 1) signals)) ≡ flat_map piece rest ++ piece own =
    ap (flat_map piece) more
    ∙ (flat_map-append piece rest (own ∷ []) ∙ ap (λ (t : List ℕ). flat_map piece rest ++ t) (append-nil (piece own))) in
    f ∙ (ap (λ (t : List ℕ). t ++ piece own) e ∙ (append_assoc old (flat_map piece rest) (piece own) ∙ ap (λ (t : List ℕ). old ++ t) (sym put)))

-- a row of four parts, one after another
pub row_told : (old a b c d nl one two three four : List ℕ) → one ≡ old ++ a → two ≡ one ++ b → three ≡ two ++ c → four ≡ three ++ d →
    four ++ nl ≡ old ++ ((a ++ (b ++ (c ++ d))) ++ nl)
row_told old a b c d nl one two three four e f g h =
    let two_is : two ≡ (old ++ a) ++ b = f ∙ ap (λ (t : List ℕ). t ++ b) e in
    let three_is : three ≡ ((old ++ a) ++ b) ++ c = g ∙ ap (λ (t : List ℕ). t ++ c) two_is in
    let four_is : four ≡ (((old ++ a) ++ b) ++ c) ++ d = h ∙ ap (λ (t : List ℕ). t ++ d) three_is in
    ap (λ (t : List ℕ). t ++ nl) four_is ∙ simp append_assoc

pub cells_more : (signals : List CodeSignal) (i : ℕ) (d : CodeSignal) (old before after : List ℕ) → i < length signals →
    before ≡ old ++ name_cells (map signal_in (take i signals)) → after ≡ before ++ name_cell (signal_in (get_or signals i d)) →
    after ≡ old ++ name_cells (map signal_in (take (i + 1) signals))
cells_more signals i d old before after lt e f = piece_more name_cell signals i d old before after lt e f

pub values_more : (free bits : Option (List Bool)) (signals : List CodeSignal) (i : ℕ) (d : CodeSignal) (old before after : List ℕ) → i < length signals →
    before ≡ old ++ value_cells free bits (map signal_in (take i signals)) → after ≡ before ++ value_cell free bits (signal_in (get_or signals i d)) →
    after ≡ old ++ value_cells free bits (map signal_in (take (i + 1) signals))
values_more free bits signals i d old before after lt e f = piece_more (value_cell free bits) signals i d old before after lt e f

-- the row of a step that is there
pub row_there : (r : Report) (lemmas : List ℕ) (i : ℕ) (step : Step) → slice_get r.steps i ≡ Some step →
    step_row (i + 1) (slice_index_or lemmas i 0) step ≡ step_row_at r lemmas i
row_there r lemmas i step e = sym (ap (row_of i lemmas) e)
