-- What one more line does to the clauses that stand.
use Rattle.std.proofs.Common.{◌≡◌, ℕ, zero, suc, ◌+◌, ◌<◌, ◌≤◌, arith, Bool, true, false, not, ◌&&◌, ◌||◌, cond, List, [], ◌∷◌, ◌++◌, length, refl}
use Rattle.std.proofs.Common.{sym, ap, subst, ◌∙◌, inl, inr, Some, None, eqb, leb}
use Rattle.std.specs.List.{list_any, list_all, filter, AllByRecursion}
use Rattle.std.proofs.lemmas.Bool.{and_parts, not-true, eqb-true, false≢true, true≢false, or_cases, false_from_ne_true, leb-true}
use Rattle.std.proofs.lemmas.List.Elements.{filter-append}
use Rattle.bs_clause.specs.Literal.{Clause, negation}
use Rattle.bs_log.specs.declared.line.Line.{Line}
use Rattle.bs_log.specs.declared.line.Line.TheVariants.{Solve, Lemma, Block, Finish, Retire, Delete}
use Rattle.bs_log.specs.History.{Problem, History, Entry, axioms_from, step_of, activation_of, added, live, is_deleted, last_id, state_of, phase_of}
use Rattle.bs_log.specs.Refusal.{NoneRefused, passes, entry_of, is_lemma_or_block, is_between_steps, in_solve, is_after_block}
use Rattle.bs_log.specs.declared.phase.Phase.{Phase}
use Rattle.bs_log.specs.declared.phase.Phase.TheVariants.{BetweenSteps, InSolve, AfterBlock, AfterFinish, AfterRetire}
use Rattle.std.specs.Prelude.{unwrap_or, slice_get}
use Rattle.std.proofs.Common.{◌-◌}
use Rattle.std.proofs.lemmas.Bool.{or_left, or_right, and_from, le-leb}
use Rattle.std.proofs.lemmas.List.{length-append}
use Rattle.bs_log.specs.declared.origin.Origin.TheVariants.{Learnt, Blocked, Retired}
use Rattle.bs_log.specs.History.{State}
use Rattle.bs_log.specs.Refusal.{assumptions_of, denies, refusal}
use Rattle.bs_log.proofs.Laws.{step_of-positive}
use Rattle.bs_log.proofs.Tests.{IsRight, right_from_none, none_from_right}

-- an id that was given
abbrev IsGiven : ℕ → Entry → Type 0
IsGiven last e = e.id ≤ last

weaker : (m n : ℕ) (es : List Entry) → m ≤ n → AllByRecursion (IsGiven m) es → AllByRecursion (IsGiven n) es
weaker m n [] le all = tt
weaker m n (e ∷ es) le all = ((let h = all.0 in omega (arith, h)), weaker m n es le all.1)

push_given : (last : ℕ) (es : List Entry) (e : Entry) → AllByRecursion (IsGiven last) es → e.id ≤ last → AllByRecursion (IsGiven last) (es ++ e ∷ [])
push_given last [] e all h = (h, tt)
push_given last (x ∷ xs) e all h = (all.0, push_given last xs e all.1 h)

axioms_given : (n : ℕ) (cs : List Clause) (last : ℕ) → n + length cs ≤ last + 1 → AllByRecursion (IsGiven last) (axioms_from n cs)
axioms_given n [] last h = tt
axioms_given n (c ∷ cs) last h = (omega arith, axioms_given (n + 1) cs last (omega arith))

next_id : (p : Problem) (h : History) (t : Bool) (id : ℕ) → (t && eqb id (last_id p h + 1)) ≡ true → id ≡ last_id p h + 1
next_id p h t id e = eqb-true id (last_id p h + 1) (and_parts t (eqb id (last_id p h + 1)) e).1

one_more : (p : Problem) (h : History) (id : ℕ) (e : Entry) → AllByRecursion (IsGiven (last_id p h)) (added p h) → id ≡ last_id p h + 1 → e.id ≡ id →
    AllByRecursion (IsGiven id) (added p h ++ e ∷ [])
one_more p h id e all next is = push_given id (added p h) e (weaker (last_id p h) id (added p h) (omega arith) all) (omega arith)

pub added_ids : (p : Problem) (h : History) → NoneRefused p h → AllByRecursion (IsGiven (last_id p h)) (added p h)
added_ids p [] right = axioms_given 1 p.clauses (length p.clauses) (omega arith)
added_ids p (Solve ∷ h) right = added_ids p h right.1
added_ids p (Finish id ∷ h) right = added_ids p h right.1
added_ids p (Delete ids ∷ h) right = added_ids p h right.1
added_ids p (Lemma id lits hints ∷ h) right =
    one_more p h id _ (added_ids p h right.1)
    (next_id p h (in_solve (phase_of h)) id (right_from_none p (state_of p h) (Lemma id lits hints) right.0).order) refl
added_ids p (Block id lits ∷ h) right =
    one_more p h id _ (added_ids p h right.1) (next_id p h (in_solve (phase_of h)) id (right_from_none p (state_of p h) (Block id lits) right.0).order) refl
added_ids p (Retire id ∷ h) right =
    one_more p h id _ (added_ids p h right.1)
    (next_id p h (not (is_between_steps (phase_of h))) id (right_from_none p (state_of p h) (Retire id) right.0).order) refl

-- an entry that is found has its id, and is one of the list
found_given : (last : ℕ) (test : Entry → Bool) (es : List Entry) (id : ℕ) → AllByRecursion (IsGiven last) es → passes test (entry_of es id) ≡ true → id ≤ last
found_given last test [] id all h = absurd (false≢true h)
found_given last test (e ∷ es) id all h =
    elim (eqb e.id id) as (λ b. eqb e.id id ≡ b → passes test (cond b (Some e) (entry_of es id)) ≡ true → id ≤ last) [
      | true ↦ λ same _. let given = all.0 in omega (arith, given, eqb-true e.id id same)
      | false ↦ λ _ later. found_given last test es id all.1 later
    ] refl h

filter_given : (last : ℕ) (test : Entry → Bool) (es : List Entry) → AllByRecursion (IsGiven last) es → AllByRecursion (IsGiven last) (filter test es)
filter_given last test [] all = tt
filter_given last test (e ∷ es) all =
    elim (test e) as (λ b. AllByRecursion (IsGiven last) (cond b (e ∷ filter test es) (filter test es))) [
      | true ↦ (all.0, filter_given last test es all.1)
      | false ↦ filter_given last test es all.1
    ]

named_given : (last : ℕ) (es : List Entry) (ids : List ℕ) (id : ℕ) → AllByRecursion (IsGiven last) es →
    list_all (λ d. passes is_lemma_or_block (entry_of es d)) ids ≡ true → list_any (λ d. eqb id d) ids ≡ true → id ≤ last
named_given last es [] id all stand there = absurd (false≢true there)
named_given last es (d ∷ ds) id all stand there =
    let parts = and_parts (passes is_lemma_or_block (entry_of es d)) (list_all (λ x. passes is_lemma_or_block (entry_of es x)) ds) stand in
    elim (or_cases (eqb id d) (list_any (λ x. eqb id x) ds) there) [
      | inl same ↦ let given = found_given last is_lemma_or_block es d all parts.0 in omega (arith, given, eqb-true id d same)
      | inr later ↦ named_given last es ds id all parts.1 later
    ]

pub deleted_ids : (p : Problem) (h : History) (id : ℕ) → NoneRefused p h → is_deleted h id ≡ true → id ≤ last_id p h
deleted_ids p [] id right gone = absurd (false≢true gone)
deleted_ids p (Solve ∷ h) id right gone = deleted_ids p h id right.1 gone
deleted_ids p (Finish _ ∷ h) id right gone = deleted_ids p h id right.1 gone
deleted_ids p (Lemma new lits hints ∷ h) id right gone =
    let before : id ≤ last_id p h = deleted_ids p h id right.1 gone in
    omega (arith, before, next_id p h (in_solve (phase_of h)) new (right_from_none p (state_of p h) (Lemma new lits hints) right.0).order)
deleted_ids p (Block new lits ∷ h) id right gone =
    let before : id ≤ last_id p h = deleted_ids p h id right.1 gone in
    omega (arith, before, next_id p h (in_solve (phase_of h)) new (right_from_none p (state_of p h) (Block new lits) right.0).order)
deleted_ids p (Retire new ∷ h) id right gone =
    let before : id ≤ last_id p h = deleted_ids p h id right.1 gone in
    omega (arith, before, next_id p h (not (is_between_steps (phase_of h))) new (right_from_none p (state_of p h) (Retire new) right.0).order)
deleted_ids p (Delete ids ∷ h) id right gone =
    elim (or_cases (list_any (λ d. eqb id d) ids) (is_deleted h id) gone) [
      | inl now ↦ named_given (last_id p h) (live p h) ids id (filter_given (last_id p h) (λ e. not (is_deleted h e.id)) (added p h) (added_ids p h right.1))
          (right_from_none p (state_of p h) (Delete ids) right.0).names now
      | inr before ↦ deleted_ids p h id right.1 before
    ]

-- a clause with the next id stands
pub live-push : (p : Problem) (h : History) (e : Entry) → NoneRefused p h → e.id ≡ last_id p h + 1 →
    filter (λ x. not (is_deleted h x.id)) (added p h ++ e ∷ []) ≡ live p h ++ e ∷ []
live-push p h e right next =
    let stays : is_deleted h e.id ≡ false =
    false_from_ne_true (is_deleted h e.id) (λ gone. let given = deleted_ids p h e.id right gone in omega (arith, given)) in
    filter-append (λ x. not (is_deleted h x.id)) (added p h) (e ∷ []) ∙ ap (λ b. live p h ++ cond (not b) (e ∷ []) []) stays

-- the clauses that a delete line names are taken away
pub filter-twice : (f g : ℕ → Bool) (es : List Entry) → filter (λ x. not (f x.id || g x.id)) es ≡ filter (λ x. not (f x.id)) (filter (λ x. not (g x.id)) es)
filter-twice f g [] = refl
filter-twice f g (e ∷ es) =
    let rest : filter (λ x. not (f x.id || g x.id)) es ≡ filter (λ x. not (f x.id)) (filter (λ x. not (g x.id)) es) = filter-twice f g es in
    elim (g e.id) as (λ b. cond (not (f e.id || b)) (e ∷ filter (λ x. not (f x.id || g x.id)) es) (filter (λ x. not (f x.id || g x.id)) es) ≡
    filter (λ x. not (f x.id)) (cond (not b) (e ∷ filter (λ x. not (g x.id)) es) (filter (λ x. not (g x.id)) es))) [
      | true ↦ elim (f e.id) as
          (λ a. cond (not (a || true)) (e ∷ filter (λ x. not (f x.id || g x.id)) es) (filter (λ x. not (f x.id || g x.id)) es) ≡ filter
          (λ x. not (f x.id)) (filter (λ x. not (g x.id)) es)) [ true ↦ rest | false ↦ rest ]
      | false ↦ elim (f e.id) as (λ a. cond (not (a || false)) (e ∷ filter (λ x. not (f x.id || g x.id)) es) (filter (λ x. not (f x.id || g x.id)) es) ≡
          cond (not a) (e ∷ filter (λ x. not (f x.id)) (filter (λ x. not (g x.id)) es))
          (filter (λ x. not (f x.id)) (filter (λ x. not (g x.id)) es))) [ true ↦ rest | false ↦ ap (λ r. e ∷ r) rest ]
    ]

-- a step that is under way is one of the problem's, and the next is at most one more
pub record IsInRange (p : Problem) (h : History) : Type 0 where
  pub next : step_of h ≤ length p.steps + 1
  pub inside : is_between_steps (phase_of h) ≡ false → step_of h ≤ length p.steps

pub solve_is_inside : (phase : Phase) → in_solve phase ≡ true → is_between_steps phase ≡ false
solve_is_inside BetweenSteps h = absurd (false≢true h)
solve_is_inside InSolve h = refl
solve_is_inside AfterBlock h = refl
solve_is_inside AfterFinish h = refl
solve_is_inside AfterRetire h = absurd (false≢true h)

pub block_is_inside : (phase : Phase) → is_after_block phase ≡ true → is_between_steps phase ≡ false
block_is_inside BetweenSteps h = absurd (false≢true h)
block_is_inside InSolve h = refl
block_is_inside AfterBlock h = refl
block_is_inside AfterFinish h = refl
block_is_inside AfterRetire h = absurd (false≢true h)

pub in_range : (p : Problem) (h : History) → NoneRefused p h → IsInRange p h
in_range p [] right = record { next = omega arith; inside = λ e. absurd (true≢false e) }
in_range p (Solve ∷ h) right =
    let before : IsInRange p h = in_range p h right.1 in
    let order = (right_from_none p (state_of p h) Solve right.0).order in
    record {
      next = before.next;
      inside = λ _. elim (or_cases (is_after_block (phase_of h)) (is_between_steps (phase_of h) && leb (step_of h) (length p.steps)) order) [
        | inl block ↦ before.inside (block_is_inside (phase_of h) block)
        | inr fits ↦ leb-true (step_of h) (length p.steps) (and_parts (is_between_steps (phase_of h)) (leb (step_of h) (length p.steps)) fits).1
      ];
    }
in_range p (Lemma id lits hints ∷ h) right =
    let before : IsInRange p h = in_range p h right.1 in
    let order = (right_from_none p (state_of p h) (Lemma id lits hints) right.0).order in
    record {
      next = before.next;
      inside = λ _. before.inside
          (solve_is_inside (phase_of h) (and_parts (in_solve (phase_of h)) (eqb id (last_id p h + 1)) order).0);
    }
in_range p (Block id lits ∷ h) right =
    let before : IsInRange p h = in_range p h right.1 in
    let order = (right_from_none p (state_of p h) (Block id lits) right.0).order in
    record {
      next = before.next;
      inside = λ _. before.inside
          (solve_is_inside (phase_of h) (and_parts (in_solve (phase_of h)) (eqb id (last_id p h + 1)) order).0);
    }
in_range p (Finish id ∷ h) right =
    let before : IsInRange p h = in_range p h right.1 in
    let order = (right_from_none p (state_of p h) (Finish id) right.0).order in
    record { next = before.next; inside = λ _. before.inside (solve_is_inside (phase_of h) order) }
in_range p (Retire id ∷ h) right =
    let before : IsInRange p h = in_range p h right.1 in
    let order = (right_from_none p (state_of p h) (Retire id) right.0).order in
    let now : step_of h ≤ length p.steps =
    before.inside (not-true (is_between_steps (phase_of h)) (and_parts (not (is_between_steps (phase_of h))) (eqb id (last_id p h + 1)) order).0) in
    record { next = omega (arith, now); inside = λ e. absurd (true≢false e) }
in_range p (Delete ids ∷ h) right =
    let before : IsInRange p h = in_range p h right.1 in
    record { next = before.next; inside = λ e. absurd (true≢false e) }

all_given : (last : ℕ) (es : List Entry) (ids : List ℕ) → AllByRecursion (IsGiven last) es →
    list_all (λ d. passes is_lemma_or_block (entry_of es d)) ids ≡ true → AllByRecursion (λ id. id ≤ last) ids
all_given last es [] all stand = tt
all_given last es (d ∷ ds) all stand =
    let parts = and_parts (passes is_lemma_or_block (entry_of es d)) (list_all (λ x. passes is_lemma_or_block (entry_of es x)) ds) stand in
    (found_given last is_lemma_or_block es d all parts.0, all_given last es ds all parts.1)

-- the ids that a delete line names were given
pub deleted_given : (p : Problem) (h : History) (ids : List ℕ) → NoneRefused p (Delete ids ∷ h) → AllByRecursion (λ id. id ≤ last_id p h) ids
deleted_given p h ids right =
    all_given (last_id p h) (live p h) ids (filter_given (last_id p h) (λ e. not (is_deleted h e.id)) (added p h) (added_ids p h right.1))
    (right_from_none p (state_of p h) (Delete ids) right.0).names

pub next_given : (p : Problem) (h : History) (t : Bool) (id : ℕ) → (t && eqb id (last_id p h + 1)) ≡ true → id ≡ last_id p h + 1
next_given = next_id

-- a problem with one more step
abbrev pub with_step : Problem → Clause → Problem
with_step p member = record { vars = p.vars; clauses = p.clauses; steps = p.steps ++ member ∷ [] }

pub same_added : (p : Problem) (member : Clause) (h : History) → added (with_step p member) h ≡ added p h
same_added p member [] = refl
same_added p member (Solve ∷ h) = same_added p member h
same_added p member (Finish id ∷ h) = same_added p member h
same_added p member (Delete ids ∷ h) = same_added p member h
same_added p member (Lemma id lits hints ∷ h) = ap (λ es. es ++ record { id = id; origin = Learnt; literals = lits } ∷ []) (same_added p member h)
same_added p member (Block id lits ∷ h) = ap (λ es. es ++ record { id = id; origin = Blocked; literals = lits } ∷ []) (same_added p member h)
same_added p member (Retire id ∷ h) =
    ap (λ es. es ++ record { id = id; origin = Retired; literals = negation (activation_of p (step_of h)) ∷ [] } ∷ []) (same_added p member h)

pub same_live : (p : Problem) (member : Clause) (h : History) → live (with_step p member) h ≡ live p h
same_live p member h = ap (filter (λ (e : Entry). not (is_deleted h e.id))) (same_added p member h)

pub same_last : (p : Problem) (member : Clause) (h : History) → last_id (with_step p member) h ≡ last_id p h
same_last p member [] = refl
same_last p member (Solve ∷ h) = same_last p member h
same_last p member (Finish id ∷ h) = same_last p member h
same_last p member (Delete ids ∷ h) = same_last p member h
same_last p member (Lemma id lits hints ∷ h) = refl
same_last p member (Block id lits ∷ h) = refl
same_last p member (Retire id ∷ h) = refl

pub same_state_of : (p : Problem) (member : Clause) (h : History) → state_of (with_step p member) h ≡ state_of p h
same_state_of p member h =
    λ i. record { phase = phase_of h; step = step_of h; last_id = same_last p member h i; live = same_live p member h i }

-- the assumptions of a step that is there are the same
pub same_assumptions : (p : Problem) (member : Clause) (step : ℕ) → 1 ≤ step → step ≤ length p.steps →
    assumptions_of (with_step p member) step ≡ assumptions_of p step
same_assumptions p member step low high = ap (λ o. unwrap_or o []) (get_left p.steps member (step - 1) (omega arith))
  where
    get_left : (xs : List Clause) (x : Clause) (i : ℕ) → i < length xs → slice_get (xs ++ x ∷ []) i ≡ slice_get xs i
    get_left [] x i h = absurd (omega arith)
    get_left (y ∷ ys) x zero h = refl
    get_left (y ∷ ys) x (suc i) h = get_left ys x i (omega arith)

still_right : (p : Problem) (member : Clause) (h : History) (line : Line) → NoneRefused p h → IsRight p (state_of p h) line →
    IsRight (with_step p member) (state_of p h) line
still_right p member h Solve right r = record {
  order = elim (or_cases (is_after_block (phase_of h)) (is_between_steps (phase_of h) && leb (step_of h) (length p.steps)) r.order) [
    | inl block ↦ or_left (is_after_block (phase_of h)) (is_between_steps (phase_of h) && leb (step_of h) (length (p.steps ++ member ∷ []))) block
    | inr fits ↦
        let parts = and_parts (is_between_steps (phase_of h)) (leb (step_of h) (length p.steps)) fits in
        or_right (is_after_block (phase_of h)) (is_between_steps (phase_of h) && leb (step_of h) (length (p.steps ++ member ∷ [])))
        (and_from (is_between_steps (phase_of h)) (leb (step_of h) (length (p.steps ++ member ∷ []))) parts.0
        (le-leb (step_of h) (length (p.steps ++ member ∷ []))
        (omega (arith, leb-true (step_of h) (length p.steps) parts.1, length-append p.steps (member ∷ [])))))
  ];
  names = r.names;
  distinct = r.distinct;
  block = r.block;
  unit = r.unit;
  last = r.last;
  finish = r.finish;
}
still_right p member h (Lemma id lits hints) right r =
    record { order = r.order; names = r.names; distinct = r.distinct; block = r.block; unit = r.unit; last = r.last; finish = r.finish }
still_right p member h (Block id lits) right r =
    record { order = r.order; names = r.names; distinct = r.distinct; block = r.block; unit = r.unit; last = r.last; finish = r.finish }
still_right p member h (Retire id) right r =
    record { order = r.order; names = r.names; distinct = r.distinct; block = r.block; unit = r.unit; last = r.last; finish = r.finish }
still_right p member h (Delete ids) right r =
    record { order = r.order; names = r.names; distinct = r.distinct; block = r.block; unit = r.unit; last = r.last; finish = r.finish }
still_right p member h (Finish id) right r =
    let here : step_of h ≤ length p.steps = (in_range p h right).inside (solve_is_inside (phase_of h) r.order) in
    record {
      order = r.order;
      names = r.names;
      distinct = r.distinct;
      block = r.block;
      unit = r.unit;
      last = r.last;
      finish =
          ap (λ a. passes (λ e. denies a e.literals) (entry_of (live p h) id)) (same_assumptions p member (step_of h) (step_of-positive h) here) ∙ r.finish;
    }

-- No line is refused for one more step.
pub NoneRefused-with_step : (p : Problem) (member : Clause) (h : History) → NoneRefused p h → NoneRefused (with_step p member) h
NoneRefused-with_step p member [] right = tt
NoneRefused-with_step p member (line ∷ h) right = (
  subst (λ (s : State). refusal (with_step p member) s line ≡ None) (sym (same_state_of p member h))
      (none_from_right (with_step p member) (state_of p h) line (still_right p member h line right.1 (right_from_none p (state_of p h) line right.0))),
  NoneRefused-with_step p member h right.1,
)
