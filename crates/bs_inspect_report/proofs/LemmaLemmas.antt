-- The lemmas of each step, line by line.
use Rattle.std.proofs.Common.{◌≡◌, ◌≤◌, ℕ, ◌<◌, ◌+◌, ◌++◌, List, [], ◌∷◌, length, map, drop, get_or, refl, ap, sym, ◌∙◌, arith, cond, true, false}
use Rattle.std.specs.List.{count_by}
use Rattle.std.proofs.lemmas.List.{drop_more, drop_all, append-nil}
use Rattle.std.proofs.lemmas.List.Sums.{sum_by-cons}
use Rattle.bs_log.specs.declared.line.Line.{Line}
use Rattle.bs_log.specs.declared.line.Line.TheVariants as L
use Rattle.bs_log.specs.Steps.{steps_of, is_lemma_line, onto_step}
use Rattle.bs_inspect_report.specs.Lemmas.{counted_from, lemmas_logged}

-- so many more lemmas in the first step
abbrev onto_count : ℕ → List ℕ → List ℕ
onto_count n [] = []
onto_count n (count ∷ counts) = (n + count) ∷ counts

onto_zero : (counts : List ℕ) → onto_count 0 counts ≡ counts
onto_zero [] = refl
onto_zero (count ∷ counts) = ap (λ (k : ℕ). k ∷ counts) (let e : 0 + count ≡ count = omega arith in e)

abbrev counts_of : List (List Line) → List ℕ
counts_of steps = map (λ lines. count_by is_lemma_line lines) steps

onto_lemma : (n : ℕ) (line : Line) (steps : List (List Line)) → is_lemma_line line ≡ true →
    onto_count (n + 1) (counts_of steps) ≡ onto_count n (counts_of (onto_step line steps))
onto_lemma n line [] is = refl
onto_lemma n line (step ∷ steps) is =
    let more : count_by is_lemma_line (line ∷ step) ≡ 1 + count_by is_lemma_line step =
    sum_by-cons (λ (l : Line). cond (is_lemma_line l) 1 0) line step ∙ ap (λ b. cond b 1 0 + count_by is_lemma_line step) is in
    ap (λ (k : ℕ). k ∷ counts_of steps) (let e : n + 1 + count_by is_lemma_line step ≡ n + count_by is_lemma_line (line ∷ step) = omega (arith, more) in e)

onto_other : (n : ℕ) (line : Line) (steps : List (List Line)) → is_lemma_line line ≡ false →
    onto_count n (counts_of steps) ≡ onto_count n (counts_of (onto_step line steps))
onto_other n line [] is = refl
onto_other n line (step ∷ steps) is =
    let more : count_by is_lemma_line (line ∷ step) ≡ 0 + count_by is_lemma_line step =
    sum_by-cons (λ (l : Line). cond (is_lemma_line l) 1 0) line step ∙ ap (λ b. cond b 1 0 + count_by is_lemma_line step) is in
    ap (λ (k : ℕ). k ∷ counts_of steps) (let e : n + count_by is_lemma_line step ≡ n + count_by is_lemma_line (line ∷ step) = omega (arith, more) in e)

counted_is : (n : ℕ) (log : List Line) → counted_from n log ≡ onto_count n (counts_of (steps_of log))
counted_is n [] = refl
counted_is n (L.Lemma id lits hints ∷ rest) = counted_is (n + 1) rest ∙ onto_lemma n (L.Lemma id lits hints) (steps_of rest) refl
counted_is n (L.Retire id ∷ rest) =
    (λ i. (let e : n ≡ n + 0 = omega arith in e) i ∷ (counted_is 0 rest ∙ onto_zero (counts_of (steps_of rest))) i)
counted_is n (L.Delete ids ∷ rest) = counted_is n rest
counted_is n (L.Solve ∷ rest) = counted_is n rest ∙ onto_other n L.Solve (steps_of rest) refl
counted_is n (L.Block id lits ∷ rest) = counted_is n rest ∙ onto_other n (L.Block id lits) (steps_of rest) refl
counted_is n (L.Finish id ∷ rest) = counted_is n rest ∙ onto_other n (L.Finish id) (steps_of rest) refl

-- counting from none gives the lemmas of each step
pub all_counted : (log : List Line) → counted_from 0 log ≡ lemmas_logged log
all_counted log = counted_is 0 log ∙ onto_zero (counts_of (steps_of log))

-- what is left, from a line on
pub line_counted : (n : ℕ) (log : List Line) (i : ℕ) (d : Line) → i < length log →
    counted_from n (drop i log) ≡ counted_from n (get_or log i d ∷ drop (i + 1) log)
line_counted n log i d lt = ap (counted_from n) (drop_more log i d lt)

-- where no line is left, all are counted
pub none_left : (counts : List ℕ) (n i : ℕ) (log : List Line) → length log ≤ i → counts ++ counted_from n (drop i log) ≡ counted_from 0 log →
    counts ≡ lemmas_logged log
none_left counts n i log le e =
    sym (append-nil counts) ∙ (ap (λ (rest : List Line). counts ++ counted_from n rest) (sym (drop_all i log le)) ∙ (e ∙ all_counted log))
