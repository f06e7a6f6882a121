-- Pieces that are appended one after another.
use Rattle.std.proofs.Common.{◌≡◌, ℕ, ◌+◌, List, [], ◌∷◌, ◌++◌, map, ap, sym, ◌∙◌, arith, slice_get, Option, Some}
use Rattle.std.proofs.Common.{Bool, true, false, cond, refl, append_assoc}
use Rattle.std.specs.Prelude.{slice_index_or}
use Rattle.std.specs.List.{count_by, range_with_len}
use Rattle.std.proofs.lemmas.List.Sums.{sum_by-append, sum_by-cons}
use Rattle.bs_bits.proofs.RangeLemmas.{range_push}
use Rattle.std.proofs.lemmas.List.{map-append}
use Rattle.bs_report.specs.declared.report.Cand.{Cand}
use Rattle.bs_report.specs.declared.report.Report.{Report}
use Rattle.bs_report.specs.declared.report.Step.{Step}
use Rattle.bs_inspect_report.specs.Recorded.{recorded_at}
use Rattle.bs_inspect_report.specs.Steps.{differs_at, one_if, step_piece, step_line, step_at}

-- three pieces behind one another, the last with its line feed
pub three_ended : (old s w e n a b c : List ℕ) → a ≡ old ++ s → b ≡ a ++ w → c ≡ b ++ (e ++ n) → c ≡ old ++ ((s ++ (w ++ e)) ++ n)
three_ended old s w e n a b c f g h =
    h ∙ (ap (λ (t : List ℕ). t ++ (e ++ n)) g
    ∙ (append_assoc a w (e ++ n)
    ∙ (ap (λ (t : List ℕ). t ++ (w ++ (e ++ n))) f
    ∙ (append_assoc old s (w ++ (e ++ n))
    ∙ ap (λ (t : List ℕ). old ++ t) (sym (append_assoc s (w ++ e) n ∙ ap (λ (t : List ℕ). s ++ t) (append_assoc w e n)))))))

-- one number more of those that pass a test
pub count_more : (p : ℕ → Bool) (n count : ℕ) → count ≡ count_by p (range_with_len 0 n) →
    count + one_if (p n) ≡ count_by p (range_with_len 0 (n + 1))
count_more p n count e =
    let more : count_by p (range_with_len 0 (n + 1)) ≡ count_by p (range_with_len 0 n) + count_by p (n ∷ []) =
    ap (count_by p) (range_push n) ∙ sum_by-append (λ (k : ℕ). cond (p k) 1 0) (range_with_len 0 n) (n ∷ []) in
    let last : count_by p (n ∷ []) ≡ one_if (p n) = sum_by-cons (λ (k : ℕ). cond (p k) 1 0) n [] ∙ one_last (p n) in
    omega (arith, more, last, e)
  where
    one_last : (b : Bool) → cond b 1 0 + 0 ≡ one_if b
    one_last true = refl
    one_last false = refl

-- what stands at one place more
pub placed_more : {X : Type 0} (p : ℕ → X) (n : ℕ) (xs after : List X) (x : X) → xs ≡ map p (range_with_len 0 n) → x ≡ p n → after ≡ xs ++ x ∷ [] →
    after ≡ map p (range_with_len 0 (n + 1))
placed_more p n xs after x e f g =
    g ∙ ((λ i. e i ++ f i ∷ []) ∙ (sym (map-append p (range_with_len 0 n) (n ∷ [])) ∙ ap (map p) (sym (range_push n))))

pub recorded_more : (r : Report) (n : ℕ) (moments after : List (Option (ℕ × ℕ))) (m : Option (ℕ × ℕ)) →
    moments ≡ map (recorded_at r) (range_with_len 0 n) → m ≡ recorded_at r n → after ≡ moments ++ m ∷ [] →
    after ≡ map (recorded_at r) (range_with_len 0 (n + 1))
recorded_more r n moments after m e f g = placed_more (recorded_at r) n moments after m e f g

pub bits_more : (first : List Bool) (cands : List Cand) (n : ℕ) (bits after : List Bool) (b : Bool) →
    bits ≡ map (differs_at first cands) (range_with_len 0 n) → b ≡ differs_at first cands n → after ≡ bits ++ b ∷ [] →
    after ≡ map (differs_at first cands) (range_with_len 0 (n + 1))
bits_more first cands n bits after b e f g = placed_more (differs_at first cands) n bits after b e f g

-- the line of a step that is there
pub step_there : (r : Report) (lemmas : List ℕ) (i : ℕ) (step : Step) → slice_get r.steps i ≡ Some step →
    step_line (i + 1) (slice_index_or lemmas i 0) step ≡ step_at r lemmas i
step_there r lemmas i step e = sym (ap (step_piece i lemmas) e)
