-- Signals in the order of their last change.
use Rattle.std.proofs.Common.{◌≡◌, ℕ, ◌<◌, ◌≤◌, ◌+◌, ◌-◌, List, [], ◌∷◌, ◌++◌, length, map, take, get_or, ap, sym, subst, ◌∙◌, arith}
use Rattle.std.specs.Prelude.{max}
use Rattle.std.specs.List.{range_with_len}
use Rattle.std.specs.List.Sorted.{IsPermutation, IsSorted}
use Rattle.std.specs.declared.cmp.Reverse.{Reverse}
use Rattle.std.proofs.lemmas.List.{get_or_default, get_or_past, get_or-map, length-map, map-append}
use Rattle.std.proofs.lemmas.List.Sums.{fold_more}
use Rattle.bs_bits.proofs.RangeLemmas.{range_push}
use Rattle.bs_inspect_view.specs.Signals.{Signal, signal_in}
use Rattle.bs_inspect_view.specs.declared.signal.Signal.{Signal as CodeSignal}
use Rattle.bs_inspect_why_words.specs.declared.row.Row.{Row}
use Rattle.bs_inspect_why_words.specs.Facts.{no_signal, signal_at}
use Rattle.bs_inspect_why_words.specs.Rows.{AreRows, later, latest, row_cmp, row_of, rows_of}

pub age_there : (ages : List ℕ) (place age : ℕ) → place < length ages → age ≡ get_or ages place age → age ≡ get_or ages place 0
age_there ages place age lt e = e ∙ get_or_default ages place age 0 lt

pub age_past : (ages : List ℕ) (place : ℕ) → length ages ≤ place → 0 ≡ get_or ages place 0
age_past ages place le = sym (get_or_past ages place 0 le)

pub latest_more : (ages places : List ℕ) (i d cycle age after : ℕ) → i < length places → cycle ≡ latest ages (take i places) →
    age ≡ get_or ages (get_or places i d) 0 → after ≡ max cycle age → after ≡ latest ages (take (i + 1) places)
latest_more ages places i d cycle age after lt e at goes =
    goes
    ∙ (ap (max cycle) at ∙ (ap (λ (n : ℕ). later ages n (get_or places i d)) e ∙ sym (fold_more (later ages) 0 places i d lt)))

-- the signal at a place
pub signal_is : (signals : List CodeSignal) (i : ℕ) (s : CodeSignal) → i < length signals → s ≡ get_or signals i s →
    signal_in s ≡ signal_at (map signal_in signals) i
signal_is signals i s lt at =
    ap signal_in at
    ∙ sym (get_or_default (map signal_in signals) i no_signal (signal_in s) (omega (arith, lt, length-map signals signal_in))
    ∙ get_or-map signal_in signals i s (signal_in s) lt)

abbrev made : ℕ → ℕ → Row
made place since = record { place = place; since = since }

pub rows_more : (ages : List ℕ) (signals : List CodeSignal) (i : ℕ) (s : CodeSignal) (places : List ℕ) (since : ℕ) (rows : List Row) → i < length signals →
    s ≡ get_or signals i s → places ≡ s.places → since ≡ latest ages places → rows ≡ rows_of ages (map signal_in signals) i →
    rows ++ record { place = i; since = since } ∷ [] ≡ rows_of ages (map signal_in signals) (i + 1)
rows_more ages signals i s places since rows lt at e is so_far =
    let xs : List Signal = map signal_in signals in
    let same : places ≡ (signal_at xs i).places = e ∙ ap (λ (x : Signal). x.places) (signal_is signals i s lt at) in
    let row : made i since ≡ row_of ages xs i = ap (made i) (is ∙ ap (latest ages) same) in
    ap (λ (rs : List Row). rs ++ record { place = i; since = since } ∷ []) so_far
    ∙ (ap (λ (r : Row). rows_of ages xs i ++ r ∷ []) row
    ∙ sym (ap (map (row_of ages xs)) (range_push i) ∙ map-append (row_of ages xs) (range_with_len 0 i) (i ∷ [])))

-- what rows are sorted by
abbrev pub row_key : Row → Reverse ℕ × ℕ
row_key r = (record { 0 = r.since }, r.place)

pub rows_are : (ages : List ℕ) (signals : List CodeSignal) (rows ordered : List Row) → rows ≡ rows_of ages (map signal_in signals) (length signals) →
    IsPermutation rows ordered → IsSorted row_cmp ordered → AreRows ages (map signal_in signals) ordered
rows_are ages signals rows ordered e moved sorted =
    let count : length signals ≡ length (map signal_in signals) = sym (length-map signals signal_in) in
    record {
      same =
          subst (λ (n : ℕ). IsPermutation (rows_of ages (map signal_in signals) n) ordered) count
          (subst (λ (rs : List Row). IsPermutation rs ordered) e moved);
      in_order = sorted;
    }
