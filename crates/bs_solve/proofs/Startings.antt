-- A solver from one call to the next, over its watch and its arena.
use Rattle.std.proofs.Common.{◌≡◌, ℕ, zero, suc, ◌+◌, ◌<◌, ◌≤◌, ◌^◌, arith, Bool, true, false, cond, List, [], ◌∷◌, ◌++◌, length, take, refl, sym, ap, subst, ◌∙◌, inl, inr, Option, Some, None}
use Rattle.std.specs.Prelude.{All, slice_get, is_some}
use Rattle.std.specs.List.{filter}
use Rattle.std.proofs.lemmas.Bool.{false≢true, ne_eqb, true≢false}
use Rattle.std.proofs.lemmas.List.{length-take-le}
use Rattle.std.proofs.lemmas.List.Elements.{All-nil, All-cons}
use Rattle.bs_clause.specs.Literal.{Literal, Clause, negation}
use Rattle.bs_arena.specs.Arena.{Held, held_at, literals_at, live_words}
use Rattle.bs_watch.specs.declared.lists.Watcher.{Watcher}
use Rattle.bs_watch.specs.Places.{Place, TrailState}
use Rattle.bs_watch.specs.Lists.{IsIn, IsAttached}
use Rattle.bs_watch.specs.Watch.{WatchState, Serves, KeepsService, grown}
use Rattle.bs_watch.proofs.Advancing.{shuffled_refl}
use Rattle.bs_watch.proofs.Grown.{grown_row}
use Rattle.bs_solve_lemmas.specs.ProofLog.{ProofLog, standing}
use Rattle.bs_solve_lemmas.specs.declared.answer.Answer.{Answer}
use Rattle.bs_solve_lemmas.specs.declared.answer.Answer.TheVariants.{Found, Refuted, Spent}
use Rattle.bs_solve_lemmas.specs.Stages.{stage_of, is_begun, is_solved, begun_proof, IsIdle}
use Rattle.bs_clause.specs.Range.{IsWithin, HasVariables}
use Rattle.bs_log.specs.declared.origin.Origin.TheVariants.{Axiom, Blocked as FromBlock}
use Rattle.bs_log.specs.History.{Problem, Entry, phase_of, live, axioms_from}
use Rattle.bs_log.specs.Refusal.{in_solve, has_distinct_variables, entry_of}
use Rattle.bs_log.specs.Lean.{StepsLeaveKept}
use Rattle.bs_solve_lemmas.specs.declared.stage.Stage.{Stage}
use Rattle.bs_solve_lemmas.specs.declared.stage.Stage.TheVariants.{Idle, Begun, Solved, Blocked, Ended, Stopped}
use Rattle.bs_solve_lemmas.specs.Search.{assumed}
use Rattle.bs_solve_lemmas.specs.Ending.{SomeLemmas}
use Rattle.bs_solve_lemmas.specs.Solver.{SolverState, IsReady, MaySolve, HasSolved, finished}
use Rattle.bs_solve_lemmas.proofs.Lines.{live_with_member}
use Rattle.bs_watch.proofs.Gets.{none_is_not_some, same_some, get_within}
use Rattle.bs_solve_lemmas.proofs.Clauses.{nothing_in, all_from}
use Rattle.bs_solve_lemmas.proofs.Solving.{ready_after_solve, has_solved, begun_stands, begun_assumptions, begun_phase}
use Rattle.bs_solve.specs.Searching.{IsOver}
use Rattle.bs_solve.specs.declared.database.Database.{Database}
use Rattle.bs_solve.specs.Database.{entries, is_live, HoldsEntries}
use Rattle.bs_solve.proofs.Entries.{clauses_in}
use Rattle.bs_solve_lemmas.specs.Keeping.{AreHeld}
use Rattle.bs_solve_lemmas.specs.Rows.{AreRowsAmong}
use Rattle.bs_watch.specs.Trail.{IsTrueOn, IsOpenOn}
use Rattle.bs_solve_lemmas.specs.Marks.{MarkState, IsClear, StaysClear}
use Rattle.bs_solve_lemmas.specs.Places.{AreWarranted, logged_literals}
use Rattle.bs_solve.specs.Seen.{seen}
use Rattle.bs_solve.specs.Ground.{HasAdded, IsGround, IsOff}
use Rattle.bs_solve.specs.Learning.{IsAtRest}
use Rattle.bs_solve.specs.Pausing.{IsKept, IsLeft, GoesToRest}
use Rattle.bs_solve.specs.Blocking.{HasHeld}
use Rattle.bs_solve.specs.Starting.{new_variables, IsLeftAt, IsWhole, KeepsRest}
use Rattle.bs_solve.proofs.Seens.{holds_shuffled}

pub holds_none : (lists : List (List Watcher)) (clauses : List Held) (database : Database) → clauses ≡ [] → database.shorts.items ≡ [] → database.rows.items ≡ [] →
    HoldsEntries lists clauses database []
holds_none lists clauses database none no_shorts no_rows = record {
  spelled = λ r is. absurd (dead r is);
  held = λ e there. absurd (nothing_in e there);
  once = λ q r is_q is_r same. absurd (dead q is_q);
  attached = λ r is two. absurd (dead r is);
  short = λ r is few. absurd (dead r is);
  listed = subst (All (λ r. is_live clauses r ≡ true)) (sym no_shorts) (All-nil (λ r. is_live clauses r ≡ true));
  few = subst (All (λ r. length (literals_at clauses r) < 2)) (sym no_shorts) (All-nil (λ r. length (literals_at clauses r) < 2));
  rows = subst (λ rs. AreRowsAmong clauses rs []) (sym no_rows) tt;
  rows_live = subst (AreHeld clauses) (sym no_rows) (λ k d less. absurd (omega (arith, less)));
}
  where
    dead : (r : ℕ) → is_live clauses r ≡ true → ⊥
    dead r is = false≢true (sym (ap (λ cs. is_some (held_at cs r)) none) ∙ is)

-- no variable stands on an empty trail
pub off_empty : (places : List Place) (c : Clause) → places ≡ [] → IsOff places c
off_empty places c none = subst (λ ps. IsOff ps c) (sym none) (all_from (IsOpenOn []) c (λ l there. (nothing_in l, nothing_in (negation l))))

-- ---- the first entries

axioms_push : (n : ℕ) (cs : List Clause) (c : Clause) →
    axioms_from n (cs ++ c ∷ []) ≡ axioms_from n cs ++ record { id = n + length cs; origin = Axiom; literals = c } ∷ []
axioms_push n [] c = ap (λ k. record { id = k; origin = Axiom; literals = c } ∷ []) (let e : n ≡ n + 0 = omega arith in e)
axioms_push n (x ∷ cs) c =
    ap (λ es. record { id = n; origin = Axiom; literals = x } ∷ es) (axioms_push (n + 1) cs c ∙
    ap (λ k. axioms_from (n + 1) cs ++ record { id = k; origin = Axiom; literals = c } ∷ [])
    (let e : n + 1 + length cs ≡ n + length (x ∷ cs) = omega arith in e))

axioms_fresh : (n m : ℕ) (cs : List Clause) → n + length cs ≤ m → entry_of (axioms_from n cs) m ≡ None
axioms_fresh n m [] past = refl
axioms_fresh n m (x ∷ cs) past =
    ap (λ b. cond b (Some (record { id = n; origin = Axiom; literals = x })) (entry_of (axioms_from (n + 1) cs) m))
    (ne_eqb n m (λ e. (let h = past in omega (arith, h, e)))) ∙ axioms_fresh (n + 1) m cs (omega (arith, past))

take_more : (cs : List Clause) (at : ℕ) (c : Clause) → slice_get cs at ≡ Some c → take (at + 1) cs ≡ take at cs ++ c ∷ []
take_more cs at c there = ap (λ n. take n cs) (let e : at + 1 ≡ suc at = omega arith in e) ∙ by cs at there
  where
    by : (xs : List Clause) (k : ℕ) → slice_get xs k ≡ Some c → take (suc k) xs ≡ take k xs ++ c ∷ []
    by [] k at = absurd (none_is_not_some c at)
    by (x ∷ xs) zero at = ap (λ y. y ∷ []) (same_some x c at)
    by (x ∷ xs) (suc k) at = ap (λ ys. x ∷ ys) (by xs k at)

-- one more of the first clauses
pub axiom_added : (old new : WatchState) (before after : List Held) (database more : Database) (cs : List Clause) (at id : ℕ) (c : Clause) →
    HasAdded old.lists new.lists before after database more (record { id = id; origin = Axiom; literals = c }) → slice_get cs at ≡ Some c → id ≡ at + 1 →
    HoldsEntries old.lists before database (axioms_from 1 (take at cs)) → HoldsEntries new.lists after more (axioms_from 1 (take (at + 1) cs))
axiom_added old new before after database more cs at id c h there is s =
    let within = get_within cs at c there in
    let count : length (take at cs) ≡ at = length-take-le at cs (omega (arith, within)) in
    let grown : take (at + 1) cs ≡ take at cs ++ c ∷ [] = take_more cs at c there in
    subst (HoldsEntries new.lists after more)
    (ap (λ n. axioms_from 1 (take at cs) ++ record { id = n; origin = Axiom; literals = c } ∷ [])
    (let e : id ≡ 1 + length (take at cs) = omega (arith, is, count) in e) ∙ sym (axioms_push 1 (take at cs) c) ∙ ap (axioms_from 1) (sym grown))
    (h.more (axioms_from 1 (take at cs)) (axioms_fresh 1 id (take at cs) (omega (arith, is, count))) s)

pub words_of_first : (before_words after_words : ℕ) (before after : List Held) → after_words + live_words before ≡ before_words + live_words after →
    before_words ≡ live_words before → after_words ≡ live_words after
words_of_first before_words after_words before after grown same = omega (arith, grown, same)

-- the entries of a proof log without a line
pub first_entries : (p : Problem) → live p [] ≡ axioms_from 1 p.clauses
first_entries p = all (axioms_from 1 p.clauses)
  where
    all : (es : List Entry) → filter (λ (e : Entry). true) es ≡ es
    all [] = refl
    all (e ∷ es) = ap (λ xs. e ∷ xs) (all es)

attached_grown : (lists : List (List Watcher)) (r : ℕ) → IsAttached lists r → IsAttached (lists ++ [] ∷ [] ∷ []) r
attached_grown lists r a = (a.0, subst (λ ws. IsIn ws r) (sym (grown_row lists a.0)) a.1)

pub rest_grown : (old new : WatchState) (vars : ℕ) → old.trail.vars < vars → new ≡ grown old → KeepsService old new → KeepsRest old new vars
rest_grown old new vars missing is serves = record {
  same = λ e. absurd (omega (arith, missing, e));
  keeps = λ proof clauses database r. record {
    holds_entries = subst (λ ls. HoldsEntries ls clauses database (entries proof)) (sym (ap (λ (w : WatchState). w.lists) is))
        (holds_shuffled old.lists (old.lists ++ [] ∷ [] ∷ []) clauses clauses database (entries proof) r.holds_entries (shuffled_refl clauses)
        (λ q a. attached_grown old.lists q a));
    serves = serves.keeps clauses r.serves;
    ground = subst (IsGround (entries proof) database.shorts.items clauses) (sym (ap (λ (w : WatchState). w.trail.places) is)) r.ground;
    levels = ap (λ (w : WatchState). w.levels) is ∙ r.levels;
  };
}

pub rest_same : (w : WatchState) (vars : ℕ) → KeepsRest w w vars
rest_same w vars = record { keeps = λ proof clauses database r. r; same = λ e. refl }

-- the marks have grown with the watch
pub clear_grown : (n vars : ℕ) (old new : MarkState) → n < vars → vars ≤ n + 1 → StaysClear old new → IsClear (n + 1) old → IsClear (vars + 1) new
clear_grown n vars old new less most s c =
    subst (λ k. IsClear (k + 1) new) (let e : n + 1 ≡ vars = omega (arith, less, most) in e) (s.clear (n + 1) c)

pub clear_same : (n vars : ℕ) (m : MarkState) → n ≡ vars → IsClear (n + 1) m → IsClear (vars + 1) m
clear_same n vars m same c = subst (λ k. IsClear (k + 1) m) same c

-- a proof log that stands for the same clauses
pub rest_in : (proof other : ProofLog) (w : WatchState) (clauses : List Held) (database : Database) → entries other ≡ entries proof → IsAtRest proof w clauses database →
    IsAtRest other w clauses database
rest_in proof other w clauses database same r = record {
  holds_entries = subst (HoldsEntries w.lists clauses database) (sym same) r.holds_entries;
  serves = r.serves;
  ground = subst (λ es. IsGround es database.shorts.items clauses w.trail.places) (sym same) r.ground;
  levels = r.levels;
}

pub kept_in : (proof other : ProofLog) (w : WatchState) (clauses : List Held) (database : Database) → entries other ≡ entries proof → assumed other ≡ assumed proof →
    IsKept proof w clauses database → IsKept other w clauses database
kept_in proof other w clauses database same step (inl r) = inl (rest_in proof other w clauses database same r)
kept_in proof other w clauses database same step (inr p) = inr (
  p.0,
  record {
    running = record {
      holds_entries = subst (HoldsEntries w.lists clauses database) (sym same) p.1.running.holds_entries;
      serves = p.1.running.serves;
      begun = p.1.running.begun;
      satisfied = p.1.running.satisfied;
      reasoned = p.1.running.reasoned;
      ground = λ v e. subst (λ es. IsGround es database.shorts.items clauses (take v.start w.trail.places)) (sym same) (p.1.running.ground v e);
    };
    sound = subst (λ cs. AreWarranted cs p.0 (assumed other) (seen w.trail.places)) (sym (ap clauses_in same))
        (subst (λ a. AreWarranted (standing proof) p.0 a (seen w.trail.places)) (sym step) p.1.sound);
    given = subst (All (IsTrueOn (logged_literals (take p.0 (seen w.trail.places))))) (sym step) p.1.given;
    low = p.1.low;
  },
)

-- ---- where a solver stands

pub left_at : (answer : Answer) (proof : ProofLog) (w : WatchState) (clauses : List Held) (database : Database) → IsLeft answer proof w clauses database →
    IsLeftAt (stage_of answer) proof w clauses database
left_at (Found values) proof w clauses database l = l
left_at (Refuted id) proof w clauses database l = l
left_at Spent proof w clauses database l = l

pub left_kept : (stage : Stage) (proof : ProofLog) (w : WatchState) (clauses : List Held) (database : Database) → IsLeftAt stage proof w clauses database →
    IsKept proof w clauses database
left_kept Idle proof w clauses database l = inl l
left_kept Begun proof w clauses database l = inl l
left_kept Solved proof w clauses database l = l
left_kept Blocked proof w clauses database l = l
left_kept (Ended id) proof w clauses database l = inl l
left_kept Stopped proof w clauses database l = inl l

-- a step begins
pub whole_begun : (old : SolverState) (w : WatchState) (clauses : List Held) (database : Database) (marks : MarkState) → IsWhole old w clauses database marks →
    old.failed ≡ false → old.stage ≡ Idle → IsReady (record { proof = old.proof; vars = old.vars + 1; stage = Begun; failed = false }) →
    IsWhole (record { proof = old.proof; vars = old.vars + 1; stage = Begun; failed = false }) w clauses database marks
whole_begun old w clauses database marks whole well idle ready = record {
  ready = ready;
  left = λ _. subst (λ s. IsLeftAt s old.proof w clauses database) idle (whole.left well);
  vars = λ _. let v = whole.vars well in let none = ap new_variables idle in omega (arith, v, none);
  clear = λ _. whole.clear well;
}

-- what is kept as a search begins
pub kept_for_search : (inside : SolverState) (a : Clause) (begun : ProofLog) (w now : WatchState) (clauses : List Held) (database : Database) (marks : MarkState) →
    IsWhole inside w clauses database marks → inside.failed ≡ false → MaySolve inside a → entries begun ≡ entries inside.proof → assumed begun ≡ a →
    KeepsRest w now inside.vars → IsKept begun now clauses database
kept_for_search inside a begun w now clauses database marks whole well may stands is keeps = elim (may.stage well) [
  | inl first ↦ inl (keeps.keeps begun clauses database (rest_in inside.proof begun w clauses database stands
      (subst (λ s. IsLeftAt s inside.proof w clauses database) first (whole.left well))))
  | inr blocked ↦
      let v = whole.vars well in
      let none = ap new_variables blocked in
      subst (λ x. IsKept begun x clauses database) (sym (keeps.same (omega (arith, v, none))))
      (kept_in inside.proof begun w clauses database stands (is ∙ sym (may.again blocked))
      (subst (λ s. IsLeftAt s inside.proof w clauses database) blocked (whole.left well)))
]

pub none_after : (answer : Answer) → new_variables (stage_of answer) ≡ 0
none_after (Found values) = refl
none_after (Refuted id) = refl
none_after Spent = refl

pub few_new : (stage : Stage) → new_variables stage ≤ 1
few_new Idle = omega arith
few_new Begun = omega arith
few_new Solved = omega arith
few_new Blocked = omega arith
few_new (Ended id) = omega arith
few_new Stopped = omega arith

-- once memory has run out, nothing is known but the bound
pub failed_whole : (proof : ProofLog) (vars : ℕ) (stage : Stage) (w : WatchState) (clauses : List Held) (database : Database) (marks : MarkState) → vars < 2 ^ 30 →
    IsWhole (record { proof = proof; vars = vars; stage = stage; failed = true }) w clauses database marks
failed_whole proof vars stage w clauses database marks bound = record {
  ready = record {
    bound = bound;
    range = λ e. absurd (true≢false e);
    distinct = λ e. absurd (true≢false e);
    fits = λ e. absurd (true≢false e);
    leaves = λ e. absurd (true≢false e);
  };
  left = λ e. absurd (true≢false e);
  vars = λ e. absurd (true≢false e);
  clear = λ e. absurd (true≢false e);
}

-- after a solve
pub whole_after_solve : (inside : SolverState) (a : Clause) (first : Bool) (begun new : ProofLog) (limit grown_vars : ℕ) (w : WatchState)
    (clauses : List Held) (database : Database) (marks : MarkState)
    (answer : Answer) (stage : Stage) → IsReady inside → MaySolve inside a → inside.failed ≡ false → first ≡ is_begun inside.stage →
    begun ≡ begun_proof first inside.proof a → SomeLemmas begun new → IsOver begun new grown_vars limit w clauses database answer → grown_vars ≡ inside.vars →
    stage ≡ stage_of answer → IsClear (grown_vars + 1) marks → IsWhole (record { proof = new; vars = inside.vars; stage = stage; failed = false }) w
    clauses database marks
whole_after_solve inside a first begun new limit grown_vars w clauses database marks answer stage ready may well is_first is lemmas over grown is_stage clear =
    let o = subst (λ n. IsOver begun new n limit w clauses database answer) grown over in
    record {
      ready = ready_after_solve inside a first begun new limit answer stage ready may well is_first is lemmas o.ends o.range o.distinct is_stage;
      left = λ _. subst (λ s. IsLeftAt s new w clauses database) (sym is_stage) (left_at answer new w clauses database o.left);
      clear = λ _. subst (λ n. IsClear (n + 1) marks) (sym over.vars_is) clear;
      vars = λ _. let none = ap new_variables is_stage ∙ none_after answer in let v = o.vars_is in omega (arith, none, v);
    }

pub solved_over : (inside now : SolverState) (a : Clause) (first : Bool) (begun new : ProofLog) (limit grown_vars : ℕ) (w : WatchState)
    (clauses : List Held) (database : Database)
    (answer : Answer) (stage : Stage) → inside ≡ now → IsReady inside → MaySolve inside a → inside.failed ≡ false → first ≡ is_begun inside.stage →
    begun ≡ begun_proof first inside.proof a → IsOver begun new grown_vars limit w clauses database answer → grown_vars ≡ inside.vars → SomeLemmas begun new →
    stage ≡ stage_of answer → HasSolved now (record { proof = new; vars = inside.vars; stage = stage; failed = false }) a limit answer
solved_over inside now a first begun new limit grown_vars w clauses database answer stage view_is ready may well is_first is over grown lemmas is_stage =
    has_solved inside now a first begun new limit answer stage view_is ready may well is_first is
    (subst (λ n. IsOver begun new n limit w clauses database answer) grown over).ends lemmas is_stage

pub begun_entries : (b : ProofLog) (first : Bool) (a : Clause) → entries (begun_proof first b a) ≡ entries b
begun_entries b true a = live_with_member b a
begun_entries b false a = refl

-- what the search of a solve asks for
pub record MaySearch (inside : SolverState) (a : Clause) (begun : ProofLog) : Type 0 where
  pub stands : standing begun ≡ standing inside.proof
  pub same : entries begun ≡ entries inside.proof
  pub assumed_is : assumed begun ≡ a
  pub phase : in_solve (phase_of begun.history) ≡ true

pub may_search : (inside : SolverState) (a : Clause) (first : Bool) (begun : ProofLog) → IsReady inside → MaySolve inside a → inside.failed ≡ false →
    first ≡ is_begun inside.stage → begun ≡ begun_proof first inside.proof a → MaySearch inside a begun
may_search inside a first begun ready may well is_first is =
    let is_begun_proof : begun ≡ begun_proof (is_begun inside.stage) inside.proof a = is ∙ ap (λ f. begun_proof f inside.proof a) is_first in
    record {
      stands = ap standing is_begun_proof ∙ begun_stands inside.proof (is_begun inside.stage) a;
      same = ap entries is_begun_proof ∙ begun_entries inside.proof (is_begun inside.stage) a;
      assumed_is = ap assumed is_begun_proof ∙ begun_assumptions inside a ready may well;
      phase = ap (λ (b : ProofLog). in_solve (phase_of b.history)) is_begun_proof ∙ begun_phase inside.proof (is_begun inside.stage) a;
    }

pub ranges_as : {n m : ℕ} (b c : ProofLog) → n ≡ m → standing c ≡ standing b → All (HasVariables n) (standing b) → All (HasVariables m) (standing c)
ranges_as {n} {m} b c is same range = subst (All (HasVariables m)) (sym same) (subst (λ k. All (HasVariables k) (standing b)) is range)

-- the watch of a step that has had a solve has all variables
pub watch_vars : (s : SolverState) (w : WatchState) (clauses : List Held) (database : Database) (marks : MarkState) → IsWhole s w clauses database marks →
    s.failed ≡ false → is_solved s.stage ≡ true → w.trail.vars ≡ s.vars
watch_vars s w clauses database marks whole well solved = by s.stage solved (whole.vars well)
  where
    by : (stage : Stage) → is_solved stage ≡ true → w.trail.vars + new_variables stage ≡ s.vars → w.trail.vars ≡ s.vars
    by Idle e v = absurd (false≢true e)
    by Begun e v = absurd (false≢true e)
    by Solved e v = omega (arith, v)
    by Blocked e v = omega (arith, v)
    by (Ended id) e v = omega (arith, v)
    by Stopped e v = omega (arith, v)

-- ---- a block, and the end of a step

-- the step has one more block
pub whole_blocked : (old : SolverState) (new : ProofLog) (w now : WatchState) (clauses after : List Held) (database more : Database) (marks : MarkState)
    (next id : ℕ) (c : Clause) →
    IsWhole old w clauses database marks → old.failed ≡ false → is_solved old.stage ≡ true → HasHeld w now clauses after database more next c →
    entry_of (entries old.proof) next ≡ None → next ≡ id →
    entries new ≡ entries old.proof ++ record { id = id; origin = FromBlock; literals = c } ∷ [] → assumed new ≡ assumed old.proof →
    IsReady (record { proof = new; vars = old.vars; stage = Blocked; failed = false }) →
    IsWhole (record { proof = new; vars = old.vars; stage = Blocked; failed = false }) now after more marks
whole_blocked old new w now clauses after database more marks next id c whole well solved h fresh is_next stands step ready = record {
  ready = ready;
  left = λ _. h.keeps old.proof new fresh (stands ∙ ap (λ n. entries old.proof ++ record { id = n; origin = FromBlock; literals = c } ∷ []) (sym is_next)) step
      (left_kept old.stage old.proof w clauses database (whole.left well));
  vars = λ _. let v = watch_vars old w clauses database marks whole well solved in let t = h.vars in omega (arith, v, t);
  clear = λ _. subst (λ n. IsClear (n + 1) marks) (sym h.vars) (whole.clear well);
}

-- nothing is assigned then but what stands for good
pub rested : (old : SolverState) (w empty : WatchState) (clauses : List Held) (database : Database) (marks : MarkState) → IsWhole old w clauses database marks →
    old.failed ≡ false → GoesToRest w empty → IsAtRest old.proof empty clauses database
rested old w empty clauses database marks whole well g = g.keeps old.proof clauses database (left_kept old.stage old.proof w clauses database (whole.left well))

pub solved_now : (inside now : SolverState) → inside ≡ now → inside.failed ≡ false → (now.failed ≡ false → now.stage ≡ Solved) → is_solved inside.stage ≡ true
solved_now inside now is well stage =
    let solved : inside.stage ≡ Solved = subst (λ (s : SolverState). s.failed ≡ false → s.stage ≡ Solved) (sym is) stage well in
    ap is_solved solved

pub step_solved : (inside now : SolverState) → inside ≡ now → inside.failed ≡ false → (now.failed ≡ false → is_solved now.stage ≡ true) →
    is_solved inside.stage ≡ true
step_solved inside now is well stage = subst (λ (s : SolverState). s.failed ≡ false → is_solved s.stage ≡ true) (sym is) stage well

pub finished_entries : (b fin : ProofLog) (end : Option ℕ) → fin ≡ finished b end → entries fin ≡ entries b
finished_entries b fin end is = ap entries is ∙ by end
  where
    by : (e : Option ℕ) → entries (finished b e) ≡ entries b
    by None = refl
    by (Some id) = refl

-- the unit of a negated activation literal
pub activation_range : (n vars : ℕ) (l : Literal) → vars ≡ n → l ≡ record { variable = vars; positive = false } → 1 ≤ vars → HasVariables n (l ∷ [])
activation_range n vars l is same low =
    subst (λ x. HasVariables n (x ∷ [])) (sym same)
    (All-cons (IsWithin n) (record { variable = vars; positive = false }) [] (low, omega (arith, is)) (All-nil (IsWithin n)))

-- ---- the first clauses

pub axiom_clauses : (n : ℕ) (cs : List Clause) → clauses_in (axioms_from n cs) ≡ cs
axiom_clauses n [] = refl
axiom_clauses n (c ∷ cs) = ap (λ xs. c ∷ xs) (axiom_clauses (n + 1) cs)

pub whole_new : (vars : ℕ) (axioms given : List Clause) (first w : WatchState) (clauses : List Held) (database : Database) (marks : MarkState) (proof : ProofLog) →
    vars < 2 ^ 30 → All (HasVariables vars) axioms → All (λ c. has_distinct_variables c ≡ true) axioms → given ≡ axioms →
    proof ≡ record { problem = record { vars = vars; clauses = axioms; steps = [] }; history = [] } →
    first.trail ≡ record { vars = vars; places = [] } → first.levels ≡ [] →
    HoldsEntries w.lists clauses database (axioms_from 1 given) → Serves w clauses → w.trail ≡ first.trail → w.levels ≡ first.levels → IsClear (vars + 1) marks →
    IsWhole (record { proof = proof; vars = vars; stage = Idle; failed = false }) w clauses database marks
whole_new vars axioms given first w clauses database marks proof bound range distinct same is trail levels holds_entries serves w_trail w_levels clear =
    let p : Problem = record { vars = vars; clauses = axioms; steps = [] } in
    let stands : standing proof ≡ axioms = ap standing is ∙ ap clauses_in (first_entries p) ∙ axiom_clauses 1 axioms in
    record {
      ready = record {
        bound = bound;
        range = λ _. subst (All (HasVariables vars)) (sym stands) range;
        distinct = λ _. subst (All (λ c. has_distinct_variables c ≡ true)) (sym stands) distinct;
        leaves = λ _. subst (λ (b : ProofLog). StepsLeaveKept b.problem b.history) (sym is) tt;
        fits = λ _. subst (λ b. IsIdle b vars) (sym is) (record { phase = refl; vars_is = refl; steps = refl });
      };
      clear = λ _. subst (λ n. IsClear (n + 1) marks) (sym (ap (λ (t : TrailState). t.vars) (w_trail ∙ trail))) clear;
      left = λ _. record {
        holds_entries = subst (HoldsEntries w.lists clauses database) (ap (axioms_from 1) same ∙ sym (ap entries is ∙ first_entries p)) holds_entries;
        serves = serves;
        ground = record {
          each = λ k p e. absurd (none_is_not_some p (subst (λ ps. slice_get ps k ≡ Some p) (ap (λ (t : TrailState). t.places) (w_trail ∙ trail)) e));
        };
        levels = w_levels ∙ levels;
      };
      vars = λ _. let v = ap (λ (t : TrailState). t.vars) (w_trail ∙ trail) in omega (arith, v);
    }
