-- The lines of a log, step by step.
use Rattle.std.proofs.Common.{◌≡◌, ℕ, ◌<◌, ◌+◌, ◌-◌, ◌≤◌, Bool, true, false, List, [], ◌∷◌, ◌++◌, length, get_or, drop, take, refl, ap, sym, ◌∙◌}
use Rattle.std.proofs.Common.{Option, Some, None, arith}
use Rattle.std.specs.Prelude.{Result, Ok, Err, IfOk, not, ◌&&◌, ◌||◌, ◌==◌, filter_map, option_map, unwrap_or, count_by}
use Rattle.std.specs.List.{list_all, list_any}
use Rattle.std.proofs.lemmas.Bool.{true≢false, false≢true, eqb-true, eq-eqb}
use Rattle.std.proofs.lemmas.List.{take_more, take_all, length-drop, drop_more, take-append-drop}
use Rattle.std.proofs.lemmas.List.Folds.{list_any-append}
use Rattle.std.proofs.lemmas.List.Sums.{length-filter}
use Rattle.bs_log.specs.Refusal.{denies}
use Rattle.bs_report.specs.Valid.{finishes_in}
use Rattle.std.proofs.lemmas.List.Elements.{filter_map-append}
use Rattle.bs_audit.specs.Logged.{ends_step}
use Rattle.bs_clause.specs.Literal.{Clause}
use Rattle.bs_log.specs.declared.line.Line.{Line}
use Rattle.bs_log.specs.declared.line.Line.TheVariants.{Solve, Lemma, Block, Finish, Retire, Delete}
use Rattle.bs_log.specs.Steps.{steps_of, onto_step, last_solve, is_lemma_line, block_of_line, lemma_of_line, finish_of_line, is_spent}
use Rattle.bs_audit.specs.StepLines.{is_retire, is_delete, undeleted, IsSplit}

-- ---- the first step

-- no line of these retires a step
abbrev pub NoRetire : List Line → Type 0
NoRetire lines = list_any is_retire lines ≡ false

none_left : (lines : List Line) → NoRetire lines → steps_of lines ≡ []
none_left [] e = refl
none_left (Solve ∷ rest) e = ap (onto_step Solve) (none_left rest e)
none_left (Lemma id lits hints ∷ rest) e = ap (onto_step (Lemma id lits hints)) (none_left rest e)
none_left (Block id lits ∷ rest) e = ap (onto_step (Block id lits)) (none_left rest e)
none_left (Finish id ∷ rest) e = ap (onto_step (Finish id)) (none_left rest e)
none_left (Retire id ∷ rest) e = absurd (true≢false e)
none_left (Delete ids ∷ rest) e = none_left rest e

first_step : (front : List Line) (line : Line) (behind : List Line) → NoRetire front → is_retire line ≡ true →
    steps_of (front ++ line ∷ behind) ≡ undeleted front ∷ steps_of behind
first_step [] Solve behind e f = absurd (false≢true f)
first_step [] (Lemma id lits hints) behind e f = absurd (false≢true f)
first_step [] (Block id lits) behind e f = absurd (false≢true f)
first_step [] (Finish id) behind e f = absurd (false≢true f)
first_step [] (Retire id) behind e f = refl
first_step [] (Delete ids) behind e f = absurd (false≢true f)
first_step (Solve ∷ front) line behind e f = ap (onto_step Solve) (first_step front line behind e f)
first_step (Lemma id lits hints ∷ front) line behind e f = ap (onto_step (Lemma id lits hints)) (first_step front line behind e f)
first_step (Block id lits ∷ front) line behind e f = ap (onto_step (Block id lits)) (first_step front line behind e f)
first_step (Finish id ∷ front) line behind e f = ap (onto_step (Finish id)) (first_step front line behind e f)
first_step (Retire id ∷ front) line behind e f = absurd (true≢false e)
first_step (Delete ids ∷ front) line behind e f = first_step front line behind e f

pub split_none : (lines : List Line) → NoRetire lines → IsSplit lines [] []
split_none lines e = record { first = ap (λ (l : List (List Line)). get_or l 0 []) (none_left lines e); rest = ap (drop 1) (none_left lines e) }

pub split_at : (lines front behind : List Line) (line : Line) → lines ≡ front ++ line ∷ behind → NoRetire front → is_retire line ≡ true →
    IsSplit lines front behind
split_at lines front behind line e f g =
    let parts = ap steps_of e ∙ first_step front line behind f g in
    record { first = ap (λ (l : List (List Line)). get_or l 0 []) parts; rest = ap (drop 1) parts }

-- ---- lines without the delete lines

pub blocks_undeleted : (lines : List Line) → filter_map block_of_line (undeleted lines) ≡ filter_map block_of_line lines
blocks_undeleted [] = refl
blocks_undeleted (Solve ∷ rest) = blocks_undeleted rest
blocks_undeleted (Lemma id lits hints ∷ rest) = blocks_undeleted rest
blocks_undeleted (Block id lits ∷ rest) = ap (λ (l : List Clause). lits ∷ l) (blocks_undeleted rest)
blocks_undeleted (Finish id ∷ rest) = blocks_undeleted rest
blocks_undeleted (Retire id ∷ rest) = blocks_undeleted rest
blocks_undeleted (Delete ids ∷ rest) = blocks_undeleted rest

pub finishes_undeleted : (lines : List Line) → filter_map finish_of_line (undeleted lines) ≡ filter_map finish_of_line lines
finishes_undeleted [] = refl
finishes_undeleted (Solve ∷ rest) = finishes_undeleted rest
finishes_undeleted (Lemma id lits hints ∷ rest) = finishes_undeleted rest
finishes_undeleted (Block id lits ∷ rest) = finishes_undeleted rest
finishes_undeleted (Finish id ∷ rest) = ap (λ (l : List ℕ). id ∷ l) (finishes_undeleted rest)
finishes_undeleted (Retire id ∷ rest) = finishes_undeleted rest
finishes_undeleted (Delete ids ∷ rest) = finishes_undeleted rest

solve_in : (o : Option (List Line)) (rest : List Line) →
    Some (unwrap_or (option_map undeleted o) (undeleted rest)) ≡ option_map undeleted (Some (unwrap_or o rest))
solve_in None rest = refl
solve_in (Some lines) rest = refl

pub solve_undeleted : (lines : List Line) → last_solve (undeleted lines) ≡ option_map undeleted (last_solve lines)
solve_undeleted [] = refl
solve_undeleted (Solve ∷ rest) = ap (λ (o : Option (List Line)). Some (unwrap_or o (undeleted rest))) (solve_undeleted rest) ∙ solve_in (last_solve rest) rest
solve_undeleted (Lemma id lits hints ∷ rest) = solve_undeleted rest
solve_undeleted (Block id lits ∷ rest) = solve_undeleted rest
solve_undeleted (Finish id ∷ rest) = solve_undeleted rest
solve_undeleted (Retire id ∷ rest) = solve_undeleted rest
solve_undeleted (Delete ids ∷ rest) = solve_undeleted rest

pub no_retire_more : (lines : List Line) (i : ℕ) (line : Line) → i < length lines → line ≡ get_or lines i line → NoRetire (take i lines) →
    is_retire line ≡ false → NoRetire (take (i + 1) lines)
no_retire_more lines i line lt is e f =
    ap (list_any is_retire) (take_more lines i line lt ∙ ap (λ (l : Line). take i lines ++ l ∷ []) (sym is))
    ∙ (list_any-append is_retire (take i lines) (line ∷ []) ∙ (ap (λ (b : Bool). b || (is_retire line || false)) e ∙ ap (λ (b : Bool). b || false) f))

pub split_here : (lines front behind : List Line) (i : ℕ) (line : Line) → i < length lines → line ≡ get_or lines i line → front ≡ take i lines →
    behind ≡ drop (i + 1) lines → NoRetire (take i lines) →
    is_retire line ≡ true → IsSplit lines front behind
split_here lines front behind i line lt is f b e r =
    let whole : lines ≡ take i lines ++ line ∷ drop (i + 1) lines =
    sym (take-append-drop i lines)
    ∙ ap (λ (l : List Line). take i lines ++ l) (drop_more lines i line lt ∙ ap (λ (l : Line). l ∷ drop (i + 1) lines) (sym is)) in
    split_at lines front behind line
    (whole ∙ (ap (λ (l : List Line). l ++ line ∷ drop (i + 1) lines) (sym f) ∙ ap (λ (l : List Line). front ++ line ∷ l) (sym b)))
    (ap (list_any is_retire) f ∙ e) r

rest_all : (lines : List Line) (i : ℕ) → take (length lines - i) (drop i lines) ≡ drop i lines
rest_all lines i = take_all (length lines - i) (drop i lines) (omega (arith, length-drop i lines))

pub split_slices : (lines : List Line) (i : ℕ) (line : Line) (retire : Bool) → i < length lines → line ≡ get_or lines i line →
    NoRetire (take i lines) → retire ≡ is_retire line → retire ≡ true →
    IsSplit lines (take i lines) (take (length lines - (i + 1)) (drop (i + 1) lines))
split_slices lines i line retire lt is e f r =
    split_here lines (take i lines) (take (length lines - (i + 1)) (drop (i + 1) lines)) i line lt is refl (rest_all lines (i + 1)) e (sym f ∙ r)

pub split_all : (lines : List Line) (i : ℕ) → length lines ≤ i → NoRetire (take i lines) → IsSplit lines [] []
split_all lines i le e = split_none lines (ap (list_any is_retire) (sym (take_all i lines le)) ∙ e)

-- ---- a spent budget

all_undeleted : (lines : List Line) → list_all is_lemma_line (undeleted lines) ≡ list_all (λ line. is_delete line || is_lemma_line line) lines
all_undeleted [] = refl
all_undeleted (Solve ∷ rest) = refl
all_undeleted (Lemma id lits hints ∷ rest) = all_undeleted rest
all_undeleted (Block id lits ∷ rest) = refl
all_undeleted (Finish id ∷ rest) = refl
all_undeleted (Retire id ∷ rest) = refl
all_undeleted (Delete ids ∷ rest) = all_undeleted rest

any_undeleted : (assumptions : Clause) (lines : List Line) →
    list_any (denies assumptions) (filter_map lemma_of_line (undeleted lines)) ≡ list_any (ends_step assumptions) lines
any_undeleted assumptions [] = refl
any_undeleted assumptions (Solve ∷ rest) = any_undeleted assumptions rest
any_undeleted assumptions (Lemma id lits hints ∷ rest) = ap (λ (b : Bool). denies assumptions lits || b) (any_undeleted assumptions rest)
any_undeleted assumptions (Block id lits ∷ rest) = any_undeleted assumptions rest
any_undeleted assumptions (Finish id ∷ rest) = any_undeleted assumptions rest
any_undeleted assumptions (Retire id ∷ rest) = any_undeleted assumptions rest
any_undeleted assumptions (Delete ids ∷ rest) = any_undeleted assumptions rest

pub spent_undeleted : (budget : ℕ) (assumptions : Clause) (lines : List Line) (count : ℕ) (lemmas ends : Bool) →
    count ≡ count_by (λ line. not (is_delete line)) lines →
    lemmas ≡ list_all (λ line. is_delete line || is_lemma_line line) lines → ends ≡ list_any (ends_step assumptions) lines →
    ((count == budget) && lemmas && not ends) ≡ is_spent budget assumptions (Some (undeleted lines))
spent_undeleted budget assumptions lines count lemmas ends e f g =
    let long : count ≡ length (undeleted lines) = e ∙ sym (length-filter (λ line. not (is_delete line)) lines) in
    ap (λ (n : ℕ). (n == budget) && lemmas && not ends) long
    ∙ (ap (λ (b : Bool). (length (undeleted lines) == budget) && b && not ends) (f ∙ sym (all_undeleted lines))
    ∙ ap (λ (b : Bool). (length (undeleted lines) == budget) && list_all is_lemma_line (undeleted lines) && not b) (g ∙ sym (any_undeleted assumptions lines)))

pub finishes_more : (lines : List Line) (i : ℕ) (line : Line) (old new : List ℕ) → i < length lines → line ≡ get_or lines i line →
    old ≡ finishes_in (take i lines) → new ≡ old ++ finishes_in (line ∷ []) →
    new ≡ finishes_in (take (i + 1) lines)
finishes_more lines i line old new lt is e f =
    f
    ∙ (ap (λ (l : List ℕ). l ++ finishes_in (line ∷ [])) e
    ∙ sym (ap finishes_in (take_more lines i line lt ∙ ap (λ (l : Line). take i lines ++ l ∷ []) (sym is))
    ∙ filter_map-append finish_of_line (take i lines) (line ∷ [])))

spent_is : (budget : ℕ) (assumptions : Clause) (lines : List Line) →
    ((count_by (λ line. not (is_delete line)) lines == budget) && list_all (λ line. is_delete line || is_lemma_line line) lines && not
    (list_any (ends_step assumptions) lines))
    ≡ is_spent budget assumptions (Some (undeleted lines))
spent_is budget assumptions lines =
    spent_undeleted budget assumptions lines (count_by (λ line. not (is_delete line)) lines)
    (list_all (λ line. is_delete line || is_lemma_line line) lines) (list_any (ends_step assumptions) lines) refl refl refl

and_false : (b : Bool) → (b && false) ≡ false
and_false true = refl
and_false false = refl

pub not_same : (m n : ℕ) → (m ≡ n → ⊥) → (m == n) ≡ false
not_same m n differ = by (m == n) refl
  where
    by : (b : Bool) → (m == n) ≡ b → b ≡ false
    by false h = refl
    by true h = absurd (differ (eqb-true m n h))

pub other_count : (budget : ℕ) (assumptions : Clause) (lines : List Line) (count : ℕ) → count ≡ count_by (λ line. not (is_delete line)) lines →
    (count ≡ budget → ⊥) →
    false ≡ is_spent budget assumptions (Some (undeleted lines))
other_count budget assumptions lines count e differ =
    let apart : (count_by (λ line. not (is_delete line)) lines == budget) ≡ false =
    not_same (count_by (λ line. not (is_delete line)) lines) budget (λ same. differ (e ∙ same)) in
    sym (ap (λ (b : Bool). b && list_all (λ line. is_delete line || is_lemma_line line) lines && not (list_any (ends_step assumptions) lines)) apart)
    ∙ spent_is budget assumptions lines

pub other_lines : (budget : ℕ) (assumptions : Clause) (lines : List Line) (lemmas : Bool) →
    lemmas ≡ list_all (λ line. is_delete line || is_lemma_line line) lines → lemmas ≡ false →
    false ≡ is_spent budget assumptions (Some (undeleted lines))
other_lines budget assumptions lines lemmas e f =
    sym
    (ap (λ (b : Bool). (count_by (λ line. not (is_delete line)) lines == budget) && b && not (list_any (ends_step assumptions) lines)) (sym e ∙ f)
    ∙ ap (λ (b : Bool). b && not (list_any (ends_step assumptions) lines)) (and_false (count_by (λ line. not (is_delete line)) lines == budget)))
    ∙ spent_is budget assumptions lines

pub only_lemmas : (budget : ℕ) (assumptions : Clause) (lines : List Line) (count : ℕ) (lemmas ends : Bool) →
    count ≡ count_by (λ line. not (is_delete line)) lines → count ≡ budget →
    lemmas ≡ list_all (λ line. is_delete line || is_lemma_line line) lines → lemmas ≡ true → ends ≡ list_any (ends_step assumptions) lines →
    not ends ≡ is_spent budget assumptions (Some (undeleted lines))
only_lemmas budget assumptions lines count lemmas ends e n f t g =
    sym
    (ap (λ (b : Bool). b && lemmas && not ends) (eq-eqb count budget n) ∙ ap (λ (b : Bool). b && not ends) t)
    ∙ spent_undeleted budget assumptions lines count lemmas ends e f g

-- the same of the last solve
pub last_is_spent : {E : Type 0} (budget : ℕ) (assumptions : Clause) (lines : List Line) (tail : List Line) (result : Result Bool E) →
    Some tail ≡ last_solve lines →
    IfOk result (λ spent. spent ≡ is_spent budget assumptions (Some (undeleted tail))) →
    IfOk result (λ spent. spent ≡ is_spent budget assumptions (last_solve (undeleted lines)))
last_is_spent budget assumptions lines tail (Ok spent) e h =
    h ∙ ap (is_spent budget assumptions) (sym (solve_undeleted lines ∙ ap (option_map undeleted) (sym e)))
last_is_spent budget assumptions lines tail (Err error) e h = tt

pub no_last : (budget : ℕ) (assumptions : Clause) (lines : List Line) → None ≡ last_solve lines →
    false ≡ is_spent budget assumptions (last_solve (undeleted lines))
no_last budget assumptions lines e = ap (is_spent budget assumptions) (sym (solve_undeleted lines ∙ ap (option_map undeleted) (sym e)))

pub spent_after : {E : Type 0} (unfinished : Bool) (count : ℕ) (right : Bool) (result : Result Bool E) → unfinished ≡ (count == 0) →
    unfinished ≡ true → IfOk result (λ spent. spent ≡ right) →
    IfOk result (λ spent. spent ≡ ((count == 0) && right))
spent_after unfinished count right (Ok spent) e f h = h ∙ ap (λ (b : Bool). b && right) (sym f ∙ e)
spent_after unfinished count right (Err error) e f h = tt
