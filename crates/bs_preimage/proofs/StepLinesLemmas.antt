-- The lines of a step, the newest first, and what they say.
use Rattle.std.proofs.Common.{◌≡◌, ℕ, Bool, true, false, List, [], ◌∷◌, ◌++◌, length, reverse, get_or, refl, ap, subst, sym, ◌∙◌, ◌⊎◌, inl, inr}
use Rattle.std.proofs.Common.{append_assoc, arith, Option, Some, None, suc, zero}
use Rattle.std.specs.Prelude.{Contains, ◌||◌, ◌&&◌, ◌==◌, filter_map, slice_get, nat_eq}
use Rattle.std.specs.Cmp.Lexicographic.{pointwise, pointwise_decides}
use Rattle.std.specs.List.{AllByRecursion as Each, list_all, cons_option}
use Rattle.std.specs.List.Sorted.{IsPermutation}
use Rattle.std.proofs.lemmas.Bool.{false≢true, eq-eqb}
use Rattle.std.proofs.lemmas.Bool.Decides.{Decides-eqb}
use Rattle.std.proofs.lemmas.List.{reverse-append, append-nil}
use Rattle.std.proofs.lemmas.List.Elements.{filter_map-append}
use Rattle.std.proofs.lemmas.List.Sorted.{IsPermutation-sym, IsPermutation-trans, IsPermutation-map, IsPermutation-reverse, length_permutation}
use Rattle.std.proofs.lemmas.List.Sorted.{Contains-permutation}
use Rattle.bs_clause.specs.Literal.{Literal, Clause, negation, same_literal}
use Rattle.bs_log.specs.declared.line.Line.{Line}
use Rattle.bs_log.specs.declared.line.Line.TheVariants.{Solve, Lemma, Block, Finish, Retire, Delete}
use Rattle.bs_log.specs.History.{History, step_of}
use Rattle.bs_log.specs.Steps.{steps_of, onto_step, block_of_line, finish_of_line, last_solve, is_spent}
use Rattle.bs_solve_lemmas.specs.ProofLog.{ProofLog, without}
use Rattle.bs_solve_lemmas.specs.Solver.{SolverState}
use Rattle.bs_solve_lemmas.proofs.Clauses.{contains_cases, contains_first, cons_contains, nothing_in}
use Rattle.bs_report.specs.declared.report.Cand.{Cand}
use Rattle.bs_report.specs.declared.report.ListEnd.{ListEnd}
use Rattle.bs_report.specs.declared.report.ListEnd.TheVariants.{Finished, Candidates, Conflicts}
use Rattle.bs_report.specs.Step.{listed, IsRightEnd}
use Rattle.bs_report.specs.Valid.{has_clause, blocks_due, are_right_blocks, is_right_finish, blocks_in, finishes_in}
use Rattle.bs_preimage.specs.Rest.{AreWholeSteps}
use Rattle.bs_preimage.specs.Finding.{is_inner, EndedBy}
use Rattle.bs_preimage.specs.Step.{ending_of}
use Rattle.bs_report.proofs.ValidLemmas.{spent_is}
use Rattle.bs_report.proofs.WholeLemmas.{literal_decides}
use Rattle.bs_preimage.proofs.FindingLemmas.{each_reverse}

-- ---- the lines of a step up to its retire line

abbrev pub is_in_step : Line → Bool
is_in_step (Retire id) = false
is_in_step (Delete ids) = false
is_in_step line = true

-- the line of the lemma that ends the step, if there is one
abbrev pub finish_lines : Option ℕ → List Line
finish_lines None = []
finish_lines (Some id) = Finish id ∷ []

inner_in_step : (line : Line) → is_inner line ≡ true → is_in_step line ≡ true
inner_in_step Solve e = refl
inner_in_step (Lemma id lits hints) e = refl
inner_in_step (Block id lits) e = refl
inner_in_step (Finish id) e = refl
inner_in_step (Retire id) e = e
inner_in_step (Delete ids) e = e

inner_are_in_step : (inner : List Line) → Each (λ line. is_inner line ≡ true) inner → Each (λ line. is_in_step line ≡ true) inner
inner_are_in_step [] all = tt
inner_are_in_step (line ∷ inner) all = (inner_in_step line all.0, inner_are_in_step inner all.1)

pub in_step : (end : Option ℕ) (inner : List Line) → Each (λ line. is_inner line ≡ true) inner →
    Each (λ line. is_in_step line ≡ true) (finish_lines end ++ inner)
in_step None inner all = inner_are_in_step inner all
in_step (Some id) inner all = (refl, inner_are_in_step inner all)

one_step : (lines rest : List Line) (id : ℕ) → Each (λ line. is_in_step line ≡ true) lines → steps_of (lines ++ Retire id ∷ rest) ≡ lines ∷ steps_of rest
one_step [] rest id all = refl
one_step (Solve ∷ lines) rest id all = ap (onto_step Solve) (one_step lines rest id all.1)
one_step (Lemma lid lits hints ∷ lines) rest id all = ap (onto_step (Lemma lid lits hints)) (one_step lines rest id all.1)
one_step (Block bid lits ∷ lines) rest id all = ap (onto_step (Block bid lits)) (one_step lines rest id all.1)
one_step (Finish fid ∷ lines) rest id all = ap (onto_step (Finish fid)) (one_step lines rest id all.1)
one_step (Retire rid ∷ lines) rest id all = absurd (false≢true all.0)
one_step (Delete ids ∷ lines) rest id all = absurd (false≢true all.0)

pub step_kept : (lines : List Line) (h : History) → Each (λ line. is_in_step line ≡ true) lines → step_of (lines ++ h) ≡ step_of h
step_kept [] h all = refl
step_kept (Solve ∷ lines) h all = step_kept lines h all.1
step_kept (Lemma id lits hints ∷ lines) h all = step_kept lines h all.1
step_kept (Block id lits ∷ lines) h all = step_kept lines h all.1
step_kept (Finish id ∷ lines) h all = step_kept lines h all.1
step_kept (Retire id ∷ lines) h all = absurd (false≢true all.0)
step_kept (Delete ids ∷ lines) h all = absurd (false≢true all.0)

reversed : (lines h : List Line) (last : Line) → reverse (last ∷ (lines ++ h)) ≡ reverse h ++ (reverse lines ++ last ∷ [])
reversed lines h last =
    reverse-append (last ∷ []) (lines ++ h)
    ∙ (ap (λ (x : List Line). x ++ last ∷ []) (reverse-append lines h) ∙ append_assoc (reverse h) (reverse lines) (last ∷ []))

pub step_lines_are : (lines h : List Line) (id : ℕ) → AreWholeSteps (reverse h) → Each (λ line. is_in_step line ≡ true) lines →
    steps_of (reverse (Retire id ∷ (lines ++ h))) ≡ steps_of (reverse h) ++ reverse lines ∷ []
step_lines_are lines h id whole all =
    ap steps_of (reversed lines h (Retire id))
    ∙ (whole (reverse lines ++ Retire id ∷ [])
    ∙ ap (λ (x : List (List Line)). steps_of (reverse h) ++ x) (one_step (reverse lines) [] id (each_reverse (λ line. is_in_step line ≡ true) lines all)))

pub whole_after : (lines h : List Line) (id : ℕ) → AreWholeSteps (reverse h) → Each (λ line. is_in_step line ≡ true) lines →
    AreWholeSteps (reverse (Retire id ∷ (lines ++ h)))
whole_after lines h id whole all more =
    ap (λ (x : List Line). steps_of (x ++ more)) (reversed lines h (Retire id))
    ∙ (ap steps_of (append_assoc (reverse h) (reverse lines ++ Retire id ∷ []) more)
    ∙ (ap (λ (x : List Line). steps_of (reverse h ++ x)) (append_assoc (reverse lines) (Retire id ∷ []) more)
    ∙ (whole (reverse lines ++ Retire id ∷ more)
    ∙ (ap (λ (x : List (List Line)). steps_of (reverse h) ++ x) (one_step (reverse lines) more id (each_reverse (λ line. is_in_step line ≡ true) lines all))
    ∙ (sym (append_assoc (steps_of (reverse h)) (reverse lines ∷ []) (steps_of more))
    ∙ ap (λ (x : List (List Line)). x ++ steps_of more) (sym (step_lines_are lines h id whole all)))))))

-- ---- the delete line

-- the line of what goes at a step's end, if anything does
abbrev pub delete_lines : List ℕ → List Line
delete_lines [] = []
delete_lines (id ∷ ids) = Delete (id ∷ ids) ∷ []

pub without_history : (b : ProofLog) (ids : List ℕ) → (without b ids).history ≡ delete_lines ids ++ b.history
without_history b [] = refl
without_history b (id ∷ ids) = refl

pub without_problem : (b : ProofLog) (ids : List ℕ) → (without b ids).problem ≡ b.problem
without_problem b [] = refl
without_problem b (id ∷ ids) = refl

pub step_deleted : (ids : List ℕ) (h : History) → step_of (delete_lines ids ++ h) ≡ step_of h
step_deleted [] h = refl
step_deleted (id ∷ ids) h = refl

-- it is no line of a step
pub lines_deleted : (ids : List ℕ) (h : List Line) → AreWholeSteps (reverse h) → steps_of (reverse (delete_lines ids ++ h)) ≡ steps_of (reverse h)
lines_deleted [] h whole = refl
lines_deleted (id ∷ ids) h whole =
    ap steps_of (reverse-append (Delete (id ∷ ids) ∷ []) h) ∙ (whole (Delete (id ∷ ids) ∷ []) ∙ append-nil (steps_of (reverse h)))

pub whole_deleted : (ids : List ℕ) (h : List Line) → AreWholeSteps (reverse h) → AreWholeSteps (reverse (delete_lines ids ++ h))
whole_deleted [] h whole more = whole more
whole_deleted (id ∷ ids) h whole more =
    ap (λ (x : List Line). steps_of (x ++ more)) (reverse-append (Delete (id ∷ ids) ∷ []) h)
    ∙ (ap steps_of (append_assoc (reverse h) (Delete (id ∷ ids) ∷ []) more)
    ∙ (whole (Delete (id ∷ ids) ∷ more)
    ∙ ap (λ (x : List (List Line)). x ++ steps_of more) (sym (lines_deleted (id ∷ ids) h whole))))

-- ---- the last of a list

pub get_last : {X : Type 0} (xs : List X) (x : X) (n : ℕ) (d : X) → n ≡ length xs → get_or (xs ++ x ∷ []) n d ≡ x
get_last [] x zero d e = refl
get_last [] x (suc n) d e = absurd (omega arith)
get_last (y ∷ ys) x zero d e = absurd (omega arith)
get_last (y ∷ ys) x (suc n) d e = get_last ys x n d (omega arith)

pub slice_get_last : {X : Type 0} (xs : List X) (x : X) (n : ℕ) → n ≡ length xs → slice_get (xs ++ x ∷ []) n ≡ Some x
slice_get_last [] x zero e = refl
slice_get_last [] x (suc n) e = absurd (omega arith)
slice_get_last (y ∷ ys) x zero e = absurd (omega arith)
slice_get_last (y ∷ ys) x (suc n) e = slice_get_last ys x n (omega arith)

-- ---- blocks

filter_map_reverse : {X Y : Type 0} (f : X → Option Y) (xs : List X) → filter_map f (reverse xs) ≡ reverse (filter_map f xs)
filter_map_reverse f [] = refl
filter_map_reverse {X} {Y} f (x ∷ xs) =
    ap (filter_map f) (reverse-append (x ∷ []) xs)
    ∙ (filter_map-append f (reverse xs) (x ∷ [])
    ∙ (ap (λ (ys : List Y). ys ++ cons_option (f x) []) (filter_map_reverse f xs) ∙ by (f x) (filter_map f xs)))
  where
    by : (o : Option Y) (ys : List Y) → reverse ys ++ cons_option o [] ≡ reverse (cons_option o ys)
    by None ys = append-nil (reverse ys)
    by (Some y) ys = sym (reverse-append (y ∷ []) ys)

finish_has_no_block : (end : Option ℕ) (inner : List Line) → filter_map block_of_line (finish_lines end ++ inner) ≡ filter_map block_of_line inner
finish_has_no_block None inner = refl
finish_has_no_block (Some id) inner = refl

-- the blocks of the lines are those that the candidates owe, in some order
pub blocks_are_due : (g : Literal) (f : List Bool → Clause) (found cands : List Cand) (end : Option ℕ) (inner : List Line) → IsPermutation found cands →
    filter_map block_of_line inner ≡ blocks_due g f (reverse found) → IsPermutation (blocks_due g f cands) (blocks_in (reverse (finish_lines end ++ inner)))
blocks_are_due g f found cands end inner perm e =
    let due : (xs ys : List Cand) → IsPermutation xs ys → IsPermutation (blocks_due g f xs) (blocks_due g f ys) = λ xs ys p.
    IsPermutation-map (λ (s : List Bool). negation g ∷ f s) (listed xs) (listed ys) (IsPermutation-map (λ (c : Cand). c.state) xs ys p) in
    let is : blocks_in (reverse (finish_lines end ++ inner)) ≡ reverse (blocks_due g f (reverse found)) =
    filter_map_reverse block_of_line (finish_lines end ++ inner) ∙ ap reverse (finish_has_no_block end inner ∙ e) in
    subst (IsPermutation (blocks_due g f cands)) (sym is)
    (IsPermutation-trans (blocks_due g f cands) (blocks_due g f found) (reverse (blocks_due g f (reverse found)))
    (due cands found (IsPermutation-sym found cands perm))
    (IsPermutation-trans (blocks_due g f found) (blocks_due g f (reverse found)) (reverse (blocks_due g f (reverse found)))
    (due found (reverse found) (IsPermutation-reverse found))
    (IsPermutation-reverse (blocks_due g f (reverse found)))))

has_from : (xs : List Clause) (c : Clause) → Contains xs c → has_clause xs c ≡ true
has_from [] c there = absurd (nothing_in c there)
has_from (x ∷ xs) c there = by (pointwise same_literal c x) refl (contains_cases x xs c there) (has_from xs c)
  where
    by : (b : Bool) → pointwise same_literal c x ≡ b → (x ≡ c) ⊎ Contains xs c → (Contains xs c → has_clause xs c ≡ true) → (b || has_clause xs c) ≡ true
    by true e h go = refl
    by false e (inl same) go = absurd (false≢true (sym e ∙ (pointwise_decides literal_decides c x).1 (sym same)))
    by false e (inr rest) go = go rest

all_have : (xs ys : List Clause) → ((c : Clause) → Contains ys c → Contains xs c) → list_all (has_clause xs) ys ≡ true
all_have xs [] f = refl
all_have xs (y ∷ ys) f =
    ap (λ (b : Bool). b && list_all (has_clause xs) ys) (has_from xs y (f y (contains_first y ys)))
    ∙ all_have xs ys (λ c there. f c (cons_contains y ys c there))

pub right_blocks : (due blocks : List Clause) → IsPermutation due blocks → are_right_blocks due blocks ≡ true
right_blocks due blocks perm =
    all_true (length blocks == length due) (list_all (has_clause due) blocks) (list_all (has_clause blocks) due)
    (eq-eqb (length blocks) (length due) (length_permutation due blocks perm))
    (all_have due blocks (λ c there. Contains-permutation blocks due c (IsPermutation-sym due blocks perm) there))
    (all_have blocks due (λ c there. Contains-permutation due blocks c perm there))
  where
    all_true : (x y z : Bool) → x ≡ true → y ≡ true → z ≡ true → (x && y && z) ≡ true
    all_true x y z e f g = rw (e, f, g) refl

-- ---- finish lines

no_finish : (inner : List Line) → Each (λ line. is_inner line ≡ true) inner → filter_map finish_of_line inner ≡ []
no_finish [] all = refl
no_finish (Solve ∷ inner) all = no_finish inner all.1
no_finish (Lemma id lits hints ∷ inner) all = no_finish inner all.1
no_finish (Block id lits ∷ inner) all = no_finish inner all.1
no_finish (Finish id ∷ inner) all = absurd (false≢true all.0)
no_finish (Retire id ∷ inner) all = absurd (false≢true all.0)
no_finish (Delete ids ∷ inner) all = absurd (false≢true all.0)

pub no_finishes : (inner : List Line) → Each (λ line. is_inner line ≡ true) inner → finishes_in (reverse inner) ≡ []
no_finishes inner all = filter_map_reverse finish_of_line inner ∙ ap reverse (no_finish inner all)

pub one_finish : (id : ℕ) (inner : List Line) → Each (λ line. is_inner line ≡ true) inner → finishes_in (reverse (Finish id ∷ inner)) ≡ id ∷ []
one_finish id inner all = filter_map_reverse finish_of_line (Finish id ∷ inner) ∙ ap (λ (ns : List ℕ). reverse (id ∷ ns)) (no_finish inner all)

-- ---- the end of the list

pub finish_is : (k b : ℕ) (a : Clause) (s : SolverState) (inner : List Line) (count : ℕ) (end : ListEnd) → Each (λ line. is_inner line ≡ true) inner →
    EndedBy k b a s inner count end →
    is_right_finish b a (reverse (finish_lines (ending_of end) ++ inner)) end (finishes_in (reverse (finish_lines (ending_of end) ++ inner))) ≡ true
finish_is k b a s inner count (Finished id) all h =
    ap (λ (ns : List ℕ). pointwise nat_eq ns (id ∷ [])) (one_finish id inner all) ∙ (pointwise_decides Decides-eqb (id ∷ []) (id ∷ [])).1 refl
finish_is k b a s inner count Candidates all h = ap (λ (ns : List ℕ). length ns == 0) (no_finishes inner all)
finish_is k b a s inner count Conflicts all h =
    ap (λ (ns : List ℕ). (length ns == 0) && is_spent b a (last_solve (reverse inner))) (no_finishes inner all) ∙ h.2

pub end_is : (asked : List (List Bool)) (k b : ℕ) (a : Clause) (s : SolverState) (inner : List Line) (count : ℕ) (cands : List Cand) (end : ListEnd) →
    length cands ≡ count →
    EndedBy k b a s inner count end → ((id : ℕ) → end ≡ Finished id → listed cands ≡ asked) →
    IsRightEnd asked k b (reverse (finish_lines (ending_of end) ++ inner)) cands end
end_is asked k b a s inner count cands (Finished id) n h whole = (whole id refl, omega (arith, n, h.1))
end_is asked k b a s inner count cands Candidates n h whole = n ∙ h.1
end_is asked k b a s inner count cands Conflicts n h whole = (omega (arith, n, h.1), spent_is b a (last_solve (reverse inner)) h.2)
