-- What one more line gives.
use Rattle.std.proofs.Common.{◌≡◌, ℕ, zero, suc, ◌+◌, ◌-◌, ◌<◌, arith, Bool, true, false, cond, eqb, List, [], ◌∷◌, ◌++◌, map, length, reverse}
use Rattle.std.proofs.Common.{refl, sym, ap, ◌∙◌, Option, Some, None}
use Rattle.std.specs.Prelude.{is_some}
use Rattle.std.specs.List.{filter, flat_map, range_with_len}
use Rattle.std.proofs.lemmas.Bool.{eqb-true, eq-eqb, ne_eqb, and_parts, false≢true}
use Rattle.std.proofs.lemmas.List.{append-nil, append_assoc, map-append, reverse-append}
use Rattle.std.proofs.lemmas.List.Elements.{filter-append}
use Rattle.std.proofs.lemmas.Grind.{flat_map-append}
use Rattle.bs_clause.specs.Literal.{Clause}
use Rattle.bs_log.specs.declared.line.Line.{Line}
use Rattle.bs_log.specs.declared.line.Line.TheVariants.{Solve, Lemma, Block, Finish, Retire, Delete}
use Rattle.bs_log.specs.declared.phase.Phase.{Phase}
use Rattle.bs_log.specs.declared.phase.Phase.TheVariants.{BetweenSteps, InSolve, AfterBlock, AfterFinish, AfterRetire}
use Rattle.bs_log.specs.History.{Problem, History, step_of, phase_of, state_of}
use Rattle.bs_log.specs.Refusal.{NoneRefused, IsAccepted, history_of, is_between_steps, is_after_retire, is_ascending}
use Rattle.bs_log.specs.Refutation.{blocks_of}
use Rattle.bs_log.proofs.Laws.{step_of-positive}
use Rattle.bs_log.proofs.Tests.{right_from_none}
use Rattle.bs_bits.proofs.RangeLemmas.{range_more}
use Rattle.bs_evidence.specs.WholeCnf.{finish_of, finished, said_of, part_of, one_of, whole_behind}
use Rattle.bs_evidence.specs.WholeProof.{under_of, so_far, ended_at, ended}
use Rattle.bs_evidence.specs.WholeWalk.{under_behind, given_at}

-- ---- steps that have not begun

pub no_blocks_later : (h : History) (step : ℕ) → step_of h < step → blocks_of h step ≡ []
no_blocks_later [] step later = refl
no_blocks_later (Solve ∷ h) step later = no_blocks_later h step later
no_blocks_later (Lemma id lits hints ∷ h) step later = no_blocks_later h step later
no_blocks_later (Block id lits ∷ h) step later =
    ap (λ b. cond b (lits ∷ blocks_of h step) (blocks_of h step)) (ne_eqb (step_of h) step (λ same. omega (arith, same, later))) ∙ no_blocks_later h step later
no_blocks_later (Finish id ∷ h) step later = no_blocks_later h step later
no_blocks_later (Retire id ∷ h) step later = no_blocks_later h step (omega (arith, later))
no_blocks_later (Delete ids ∷ h) step later = no_blocks_later h step later

pub no_finish_later : (h : History) (step : ℕ) → step_of h < step → finish_of h step ≡ None
no_finish_later [] step later = refl
no_finish_later (Solve ∷ h) step later = no_finish_later h step later
no_finish_later (Lemma id lits hints ∷ h) step later = no_finish_later h step later
no_finish_later (Block id lits ∷ h) step later = no_finish_later h step later
no_finish_later (Finish id ∷ h) step later =
    ap (λ b. cond b (Some id) (finish_of h step)) (ne_eqb (step_of h) step (λ same. omega (arith, same, later))) ∙ no_finish_later h step later
no_finish_later (Retire id ∷ h) step later = no_finish_later h step (omega (arith, later))
no_finish_later (Delete ids ∷ h) step later = no_finish_later h step later

-- ---- steps that are over

blocks_same : (line : Line) (h : History) (step : ℕ) → step < step_of h → blocks_of (line ∷ h) step ≡ blocks_of h step
blocks_same Solve h step less = refl
blocks_same (Lemma id lits hints) h step less = refl
blocks_same (Block id lits) h step less =
    ap (λ b. cond b (lits ∷ blocks_of h step) (blocks_of h step)) (ne_eqb (step_of h) step (λ same. omega (arith, same, less)))
blocks_same (Finish id) h step less = refl
blocks_same (Retire id) h step less = refl
blocks_same (Delete ids) h step less = refl

pub finish_same : (line : Line) (h : History) (step : ℕ) → step < step_of h → finish_of (line ∷ h) step ≡ finish_of h step
finish_same Solve h step less = refl
finish_same (Lemma id lits hints) h step less = refl
finish_same (Block id lits) h step less = refl
finish_same (Finish id) h step less =
    ap (λ b. cond b (Some id) (finish_of h step)) (ne_eqb (step_of h) step (λ same. omega (arith, same, less)))
finish_same (Retire id) h step less = refl
finish_same (Delete ids) h step less = refl

part_same : (p : Problem) (line : Line) (h : History) (step : ℕ) → step < step_of h → part_of p (line ∷ h) step ≡ part_of p h step
part_same p line h step less = λ i. reverse (blocks_same line h step less i) ++ said_of p step (finish_same line h step less i)

flat_same : {X : Type 0} (f g : ℕ → List X) (a n : ℕ) → ((k : ℕ) → k < a + n → f k ≡ g k) → flat_map f (range_with_len a n) ≡ flat_map g (range_with_len a n)
flat_same f g a zero same = refl
flat_same f g a (suc n) same =
    let first = same a (omega arith) in
    let rest = flat_same f g (a + 1) n (λ k less. same k (omega (arith, less))) in
    λ i. first i ++ rest i

filter_same : (f g : ℕ → Bool) (a n : ℕ) → ((k : ℕ) → k < a + n → f k ≡ g k) → filter f (range_with_len a n) ≡ filter g (range_with_len a n)
filter_same f g a zero same = refl
filter_same f g a (suc n) same =
    let first = same a (omega arith) in
    let rest = filter_same f g (a + 1) n (λ k less. same k (omega (arith, less))) in
    λ i. cond (first i) (a ∷ rest i) (rest i)

-- the clauses of the steps that are over
over : Problem → History → List Clause
over p h = flat_map (part_of p h) (range_with_len 1 (step_of h - 1))

over_same : (p : Problem) (line : Line) (h : History) → flat_map (part_of p (line ∷ h)) (range_with_len 1 (step_of h - 1)) ≡
    flat_map (part_of p h) (range_with_len 1 (step_of h - 1))
over_same p line h =
    let low = step_of-positive h in
    flat_same (part_of p (line ∷ h)) (part_of p h) 1 (step_of h - 1) (λ k less. part_same p line h k (omega (arith, less, low)))

range_over : (h : History) → range_with_len 1 (step_of h + 1 - 1) ≡ range_with_len 1 (step_of h - 1) ++ step_of h ∷ []
range_over h =
    let low = step_of-positive h in
    let more : step_of h + 1 - 1 ≡ suc (step_of h - 1) = omega (arith, low) in
    let top : 1 + (step_of h - 1) ≡ step_of h = omega (arith, low) in
    ap (range_with_len 1) more ∙ (range_more 1 (step_of h - 1) ∙ ap (λ (n : ℕ). range_with_len 1 (step_of h - 1) ++ n ∷ []) top)

still : (p : Problem) (line : Line) (h : History) (step : List Clause) → step ≡ blocks_of h (step_of h) →
    flat_map (part_of p (line ∷ h)) (range_with_len 1 (step_of h - 1)) ++ reverse step ≡ so_far p h ++ []
still p line h step is =
    (λ i. over_same p line h i ++ reverse (is i)) ∙ sym (append-nil (so_far p h))

pub so_far_next : (p : Problem) (line : Line) (h : History) → so_far p (line ∷ h) ≡ so_far p h ++ given_at p (under_of h) line
so_far_next p Solve h = still p Solve h (blocks_of h (step_of h)) refl
so_far_next p (Lemma id lits hints) h = still p (Lemma id lits hints) h (blocks_of h (step_of h)) refl
so_far_next p (Finish id) h = still p (Finish id) h (blocks_of h (step_of h)) refl
so_far_next p (Delete ids) h = still p (Delete ids) h (blocks_of h (step_of h)) refl
so_far_next p (Block id lits) h =
    let old : List Clause = blocks_of h (step_of h) in
    let front : List Clause = flat_map (part_of p h) (range_with_len 1 (step_of h - 1)) in
    let here : cond (eqb (step_of h) (step_of h)) (lits ∷ old) old ≡ lits ∷ old =
    ap (λ b. cond b (lits ∷ old) old) (eq-eqb (step_of h) (step_of h) refl) in
    (λ i. over_same p (Block id lits) h i ++ reverse (here i))
    ∙ (ap (λ (cs : List Clause). front ++ cs) (reverse-append (lits ∷ []) old) ∙ sym (append_assoc front (reverse old) (lits ∷ [])))
so_far_next p (Retire id) h =
    let front : List Clause = flat_map (part_of p h) (range_with_len 1 (step_of h - 1)) in
    let said : List Clause = said_of p (step_of h) (finish_of h (step_of h)) in
    let own : List Clause = reverse (blocks_of h (step_of h)) in
    let none : blocks_of h (step_of h + 1) ≡ [] = no_blocks_later h (step_of h + 1) (omega arith) in
    (λ i. flat_map (part_of p h) (range_over h i) ++ reverse (none i))
    ∙ (append-nil (flat_map (part_of p h) (range_with_len 1 (step_of h - 1) ++ step_of h ∷ []))
    ∙ (flat_map-append (part_of p h) (range_with_len 1 (step_of h - 1)) (step_of h ∷ [])
    ∙ (ap (λ (cs : List Clause). front ++ cs) (append-nil (own ++ said)) ∙ sym (append_assoc front own said))))

pub under_next : (line : Line) (h : History) → under_of (line ∷ h) ≡ under_behind line (under_of h)
under_next Solve h = refl
under_next (Lemma id lits hints) h = refl
under_next (Block id lits) h = refl
under_next (Finish id) h =
    ap (λ b. record { step = step_of h; finish = cond b (Some id) (finish_of h (step_of h)) }) (eq-eqb (step_of h) (step_of h) refl)
under_next (Retire id) h =
    ap (λ (o : Option ℕ). record { step = step_of h + 1; finish = o }) (no_finish_later h (step_of h + 1) (omega arith))
under_next (Delete ids) h = refl

-- ---- all of them

abbrev test_of : History → ℕ → Bool
test_of h = λ step. is_some (finish_of h step)

tests_same : (line : Line) (h : History) → filter (test_of (line ∷ h)) (range_with_len 1 (step_of h - 1)) ≡ filter (test_of h) (range_with_len 1 (step_of h - 1))
tests_same line h =
    let low = step_of-positive h in
    filter_same (test_of (line ∷ h)) (test_of h) 1 (step_of h - 1) (λ k less. ap is_some (finish_same line h k (omega (arith, less, low))))

abbrev pub step_in : ℕ × ℕ → ℕ
step_in e = e.1

steps_more : (line : Line) (h : History) (new : List ℕ) → map step_in (ended h) ≡ filter (test_of h) (range_with_len 1 (step_of h - 1)) →
    new ≡ map step_in (ended_at (under_of h) line) →
    map step_in (ended (line ∷ h)) ≡ filter (test_of h) (range_with_len 1 (step_of h - 1)) ++ new
steps_more line h new before is =
    map-append step_in (ended h) (ended_at (under_of h) line) ∙ (λ i. before i ++ sym is i)

none_more : (line : Line) (h : History) → map step_in (ended h) ≡ filter (test_of h) (range_with_len 1 (step_of h - 1)) →
    [] ≡ map step_in (ended_at (under_of h) line) →
    map step_in (ended (line ∷ h)) ≡ filter (test_of (line ∷ h)) (range_with_len 1 (step_of h - 1))
none_more line h before none = steps_more line h [] before none ∙ (append-nil _ ∙ sym (tests_same line h))

-- the steps that finished ones among those over are
pub ended_is : (h : History) → map step_in (ended h) ≡ filter (test_of h) (range_with_len 1 (step_of h - 1))
ended_is [] = refl
ended_is (Solve ∷ h) = none_more Solve h (ended_is h) refl
ended_is (Lemma id lits hints ∷ h) = none_more (Lemma id lits hints) h (ended_is h) refl
ended_is (Block id lits ∷ h) = none_more (Block id lits) h (ended_is h) refl
ended_is (Finish id ∷ h) = none_more (Finish id) h (ended_is h) refl
ended_is (Delete ids ∷ h) = none_more (Delete ids) h (ended_is h) refl
ended_is (Retire id ∷ h) =
    let tail : filter (test_of h) (step_of h ∷ []) ≡ map step_in (ended_at (under_of h) (Retire id)) = by (test_of h (step_of h)) in
    steps_more (Retire id) h (filter (test_of h) (step_of h ∷ [])) (ended_is h) tail
    ∙ (sym (filter-append (test_of h) (range_with_len 1 (step_of h - 1)) (step_of h ∷ [])) ∙ ap (filter (test_of h)) (sym (range_over h)))
  where
    by : (b : Bool) → cond b (step_of h ∷ []) [] ≡ map step_in (cond b ((id, step_of h) ∷ []) [])
    by true = refl
    by false = refl

-- ---- behind the last line

retire_between : (phase : Phase) → is_after_retire phase ≡ true → is_between_steps phase ≡ true
retire_between BetweenSteps h = absurd (false≢true h)
retire_between InSolve h = absurd (false≢true h)
retire_between AfterBlock h = absurd (false≢true h)
retire_between AfterFinish h = absurd (false≢true h)
retire_between AfterRetire h = refl

no_blocks_between : (p : Problem) (h : History) → NoneRefused p h → is_between_steps (phase_of h) ≡ true → blocks_of h (step_of h) ≡ []
no_blocks_between p [] right between = refl
no_blocks_between p (Solve ∷ h) right between = absurd (false≢true between)
no_blocks_between p (Lemma id lits hints ∷ h) right between = absurd (false≢true between)
no_blocks_between p (Block id lits ∷ h) right between = absurd (false≢true between)
no_blocks_between p (Finish id ∷ h) right between = absurd (false≢true between)
no_blocks_between p (Retire id ∷ h) right between = no_blocks_later h (step_of h + 1) (omega arith)
no_blocks_between p (Delete ids ∷ h) right between =
    let order = (right_from_none p (state_of p h) (Delete ids) right.0).order in
    no_blocks_between p h right.1 (retire_between (phase_of h) (and_parts (is_after_retire (phase_of h)) (is_ascending ids) order).0)

module _ (p : Problem) (log : List Line) (ok : IsAccepted p log) where
  abbrev pub top : History
  top = history_of log

  between : (is_between_steps (phase_of top) ≡ true) × (eqb (step_of top) (length p.steps + 1) ≡ true)
  between = and_parts (is_between_steps (phase_of top)) (eqb (step_of top) (length p.steps + 1)) ok.complete

  pub all_over : step_of top ≡ length p.steps + 1
  all_over = eqb-true (step_of top) (length p.steps + 1) between.1

  many : step_of top - 1 ≡ length p.steps
  many = let is = all_over in omega (arith, is)

  -- the clauses of all lines
  pub parts_are : so_far p top ≡ flat_map (part_of p top) (range_with_len 1 (length p.steps))
  parts_are =
      (λ i. flat_map (part_of p top) (range_with_len 1 (many i)) ++ reverse (no_blocks_between p top ok.lines between.0 i))
      ∙ append-nil (flat_map (part_of p top) (range_with_len 1 (length p.steps)))

  pub finished_are : map step_in (ended top) ≡ finished p top
  finished_are = ended_is top ∙ ap (λ (n : ℕ). filter (test_of top) (range_with_len 1 n)) many

  pub behind_is : whole_behind p top ≡ so_far p top ++ one_of p (finished p top) ∷ []
  behind_is = ap (λ (cs : List Clause). cs ++ one_of p (finished p top) ∷ []) (sym parts_are)
