-- A solver with what it knows of its lemmas, from one call to the next.
use Rattle.std.proofs.Common.{◌≡◌, ℕ, ◌+◌, ◌-◌, ◌*◌, ◌<◌, ◌≤◌, ◌^◌, arith, Bool, true, false, not, ◌&&◌, ◌||◌, List, [], ◌∷◌, ◌++◌, map, length, take, refl, sym, ap, subst, ◌∙◌, inl, inr, ◌⊎◌, Option, Some, None}
use Rattle.std.specs.Prelude.{All, Contains, count_by}
use Rattle.std.specs.List.{filter, list_any, AllByRecursion}
use Rattle.std.proofs.lemmas.Bool.{true≢false, false≢true, and_parts}
use Rattle.std.proofs.lemmas.List.{append-nil, append_assoc, take_all, map-append}
use Rattle.std.proofs.lemmas.List.Elements.{All-contains, All-weaker, All-push, filter-append}
use Rattle.bs_clause.specs.Literal.{Literal, Clause, negation}
use Rattle.bs_clause.specs.Range.{HasVariables, IsWithin}
use Rattle.bs_log.specs.declared.line.Line.{Line}
use Rattle.bs_log.specs.declared.line.Line.TheVariants.{Solve, Lemma, Block, Finish, Retire, Delete}
use Rattle.bs_log.specs.declared.origin.Origin.{Origin}
use Rattle.bs_log.specs.declared.origin.Origin.TheVariants.{Axiom, Learnt, Blocked as FromBlock, Retired}
use Rattle.bs_log.specs.History.{Problem, History, Entry, step_of, phase_of, added, is_deleted, live}
use Rattle.bs_log.specs.Refusal.{is_lemma, is_lemma_or_block, in_solve, has_distinct_variables}
use Rattle.bs_log.specs.Kept.{is_kept, kept_lemmas, is_free_lemma, has_retired_activation}
use Rattle.bs_log.specs.Lean.{is_block, LeavesKept, StepsLeaveKept}
use Rattle.bs_log.specs.Steps.{is_lemma_line}
use Rattle.bs_log.proofs.Laws.{step_of-positive}
use Rattle.bs_arena.specs.Arena.{Content, Held, live_words}
use Rattle.bs_watch.specs.Watch.{WatchState}
use Rattle.bs_solve_lemmas.specs.Marks.{MarkState, IsClear}
use Rattle.bs_watch.specs.declared.lists.Watcher.{Watcher}
use Rattle.bs_watch.specs.Trail.{IsOpenOn}
use Rattle.bs_watch.specs.Places.{Place, IsUnassigned, literals_of}
use Rattle.bs_solve_lemmas.specs.Keeping.{over}
use Rattle.bs_solve_lemmas.specs.Rows.{going}
use Rattle.bs_solve_lemmas.specs.declared.stage.Stage.{Stage}
use Rattle.bs_solve_lemmas.specs.declared.stage.Stage.TheVariants.{Idle, Begun, Solved}
use Rattle.bs_solve_lemmas.specs.declared.answer.Answer.{Answer}
use Rattle.bs_solve_lemmas.specs.declared.answer.Answer.TheVariants.{Found, Refuted, Spent}
use Rattle.bs_solve_lemmas.specs.ProofLog.{ProofLog, standing, without}
use Rattle.bs_solve_lemmas.specs.Ending.{SomeLemmas}
use Rattle.bs_solve_lemmas.specs.Search.{assumed}
use Rattle.bs_solve_lemmas.specs.Stages.{is_begun, is_solved, stage_of, begun_proof, IsIdle, IsInside, Fits}
use Rattle.bs_solve_lemmas.specs.Solver.{SolverState, IsReady, MaySolve, finished, retired, leaving}
use Rattle.bs_solve_lemmas.proofs.CallerLemmas.{begun_vars, begun_clauses, finished_problem, without_problem}
use Rattle.bs_solve_lemmas.proofs.Solving.{begun_stands, begun_assumptions, begun_inside, begun_phase}
use Rattle.bs_solve_lemmas.proofs.Leavings.{leaves_begun}
use Rattle.bs_watch.proofs.Gets.{get_from_Contains, get_map_cases, get_within}
use Rattle.bs_solve_lemmas.proofs.Clauses.{nothing_in, contains_cases, contains_first, all_from, filter_cases, filter_from, map_contains}
use Rattle.bs_solve.specs.declared.database.Database.{Database}
use Rattle.bs_solve.specs.Database.{entries, HoldsEntries}
use Rattle.bs_solve.specs.Ground.{IsGround, IsOff, IsOwn}
use Rattle.bs_solve.specs.Learning.{IsAtRest}
use Rattle.bs_solve.specs.Pausing.{IsKept, IsGrounded}
use Rattle.bs_solve.proofs.Grounds.{ground_literal}
use Rattle.bs_solve.proofs.Entries.{clauses_in}
use Rattle.bs_solve.specs.declared.dropping.CountedRows.{CountedRows}
use Rattle.bs_solve.specs.Dropping.{marked, without_ids, is_free, is_free_long, AreKnownIn}
use Rattle.bs_solve.specs.Ending.{unit_of, HasSettled}
use Rattle.bs_solve.specs.Opening.{HasOpened}
use Rattle.bs_solve.specs.Starting.{IsWhole, IsEngine, KeepsRest}
use Rattle.bs_solve.proofs.Startings.{begun_entries, finished_entries, watch_vars, whole_begun, failed_whole, kept_for_search, may_search}
use Rattle.bs_solve.proofs.Knowns.{known_grows, known_with_activation}

-- ---- the entries grow

-- lemma lines leave what stands and add to it
grown_by : (p : Problem) (lines : List Line) (h : History) → AllByRecursion (λ line. is_lemma_line line ≡ true) lines →
    (more : List Entry) × (live p (lines ++ h) ≡ live p h ++ more)
grown_by p [] h all = ([], sym (append-nil (live p h)))
grown_by p (Lemma id lits hints ∷ lines) h all =
    let (more, is) = grown_by p lines h all.1 in
    let e : Entry = record { id = id; origin = Learnt; literals = lits } in (
      more ++ filter (λ (x : Entry). not (is_deleted (lines ++ h) x.id)) (e ∷ []),
      filter-append (λ (x : Entry). not (is_deleted (lines ++ h) x.id)) (added p (lines ++ h)) (e ∷ []) ∙
          ap (λ es. es ++ filter (λ (x : Entry). not (is_deleted (lines ++ h) x.id)) (e ∷ [])) is ∙
          append_assoc (live p h) more (filter (λ (x : Entry). not (is_deleted (lines ++ h) x.id)) (e ∷ [])),
    )
grown_by p (Solve ∷ lines) h all = absurd (false≢true all.0)
grown_by p (Block id lits ∷ lines) h all = absurd (false≢true all.0)
grown_by p (Finish id ∷ lines) h all = absurd (false≢true all.0)
grown_by p (Retire id ∷ lines) h all = absurd (false≢true all.0)
grown_by p (Delete ids ∷ lines) h all = absurd (false≢true all.0)

lemmas_grow : (old new : ProofLog) → SomeLemmas old new → (more : List Entry) × (entries new ≡ entries old ++ more)
lemmas_grow old new l =
    let (more, is) = grown_by old.problem l.lines old.history l.lemmas in
    (more, ap (λ p. live p new.history) l.problem ∙ ap (live old.problem) l.history ∙ is)

-- ---- a solver

pub engine_failed : (proof : ProofLog) (vars : ℕ) (stage : Stage) (w : WatchState) (a : Content) (database : Database) (marks : MarkState) (own : ℕ) (known : CountedRows) →
    vars < 2 ^ 30 → IsEngine (record { proof = proof; vars = vars; stage = stage; failed = true }) w a database marks own known
engine_failed proof vars stage w a database marks own known bound = record {
  whole = failed_whole proof vars stage w a.clauses database marks bound;
  own_is = λ e. absurd (true≢false e);
  own_clauses = λ e. absurd (true≢false e);
  knows = λ e. absurd (true≢false e);
  words = λ e s. absurd (true≢false e);
}

pub engine_new : (proof : ProofLog) (vars : ℕ) (w : WatchState) (a : Content) (database : Database) (marks : MarkState) (known : CountedRows) →
    IsWhole (record { proof = proof; vars = vars; stage = Idle; failed = false }) w a.clauses database marks → vars ≡ proof.problem.vars → IsOwn proof.problem →
    a.words ≡ live_words a.clauses → known ≡ record { rows = 0; long = 0 } →
    IsEngine (record { proof = proof; vars = vars; stage = Idle; failed = false }) w a database marks vars known
engine_new proof vars w a database marks known whole own clauses words none = record {
  whole = whole;
  own_is = λ _. own;
  own_clauses = λ _. clauses;
  knows = λ _. subst (λ (k : CountedRows). AreKnownIn vars (vars - vars) (marked (entries proof)) k.rows k.long) (sym none)
      (record { low = omega arith; free = λ k d less. absurd (omega (arith, less)); counted = refl });
  words = λ _ _. omega (arith, words);
}

pub ready_begun : (old : SolverState) → IsReady old → old.failed ≡ false → old.stage ≡ Idle → old.vars + 1 < 2 ^ 30 →
    IsReady (record { proof = old.proof; vars = old.vars + 1; stage = Begun; failed = false })
ready_begun old ready well idle room =
    let fits : IsIdle old.proof old.vars = subst (λ s. Fits s old.proof old.vars) idle (ready.fits well) in
    record {
      bound = room;
      range = λ _. All-weaker (HasVariables old.vars) (HasVariables (old.vars + 1)) (λ c h. All-weaker (IsWithin old.vars) (IsWithin (old.vars + 1))
          (λ l within. let low = within.0 in let high = within.1 in (low, omega (arith, high))) c h) (standing old.proof) (ready.range well);
      distinct = λ _. ready.distinct well;
      fits = λ _. record { phase = fits.phase; vars_is = fits.vars_is; steps = fits.steps };
      leaves = λ _. ready.leaves well;
    }

-- the clauses that stand with the unit
pub unit_range : (b : ProofLog) (vars : ℕ) (activation : Literal) → All (HasVariables vars) (standing b) → HasVariables vars (negation activation ∷ []) →
    All (HasVariables vars) (clauses_in (entries b ++ unit_of b activation ∷ []))
unit_range b vars activation range one =
    subst (All (HasVariables vars)) (sym (map-append (λ (e : Entry). e.literals) (entries b) (unit_of b activation ∷ [])))
    (All-push (HasVariables vars) (standing b) (negation activation ∷ []) range one)

-- a step begins, and no clause names its activation literal
pub engine_begun : (old : SolverState) (w : WatchState) (a : Content) (database : Database) (marks : MarkState) (own : ℕ) (known : CountedRows) →
    IsEngine old w a database marks own known → old.failed ≡ false → old.stage ≡ Idle →
    IsReady (record { proof = old.proof; vars = old.vars + 1; stage = Begun; failed = false }) →
    IsEngine (record { proof = old.proof; vars = old.vars + 1; stage = Begun; failed = false }) w a database marks own known
engine_begun old w a database marks own known e well idle ready =
    let fits : IsIdle old.proof old.vars = subst (λ s. Fits s old.proof old.vars) idle (e.whole.ready.fits well) in
    let positive = step_of-positive old.proof.history in
    let is = fits.vars_is in
    let own_is = e.own_is well in
    let enough : own ≤ old.vars = omega (arith, positive, is, own_is) in
    let more : old.vars - own + 1 ≡ old.vars + 1 - own = omega (arith, enough) in
    let all : own + (old.vars - own) ≡ old.vars = omega (arith, enough) in
    record {
      whole = whole_begun old w a.clauses database marks e.whole well idle ready;
      own_is = λ _. own_is;
      own_clauses = λ _. e.own_clauses well;
      knows = λ _. subst (λ n. AreKnownIn own n (marked (entries old.proof)) known.rows known.long) more
          (known_with_activation own (old.vars - own) (marked (entries old.proof)) known.rows known.long (λ x there.
          subst (λ n. HasVariables n x.literals) (sym all)
          (All-contains (HasVariables old.vars) (standing old.proof) x.literals (e.whole.ready.range well)
          (map_contains (λ (y : Entry). y.literals) (entries old.proof) x (filter_cases is_lemma_or_block (entries old.proof) x there).0)))
          (e.knows well));
      words = λ _ _. e.words well (ap is_solved idle);
    }

solved_after : (answer : Answer) → is_solved (stage_of answer) ≡ true
solved_after (Found values) = refl
solved_after (Refuted id) = refl
solved_after Spent = refl

pub own_as : (p q : Problem) → q.vars ≡ p.vars → q.clauses ≡ p.clauses → IsOwn p → IsOwn q
own_as p q vars clauses own = subst (λ cs. All (HasVariables q.vars) cs) (sym clauses) (subst (λ n. All (HasVariables n) p.clauses) (sym vars) own)

-- more entries, in a step that has had a solve
pub engine_more : (old : SolverState) (new : ProofLog) (stage : Stage) (w now : WatchState) (a after : Content) (database more : Database) (marks new_marks : MarkState)
    (own : ℕ) (known : CountedRows) (es : List Entry) →
    IsEngine old w a database marks own known → old.failed ≡ false → is_solved stage ≡ true → new.problem.vars ≡ old.proof.problem.vars →
    new.problem.clauses ≡ old.proof.problem.clauses → entries new ≡ entries old.proof ++ es →
    IsWhole (record { proof = new; vars = old.vars; stage = stage; failed = false }) now after.clauses more new_marks →
    IsEngine (record { proof = new; vars = old.vars; stage = stage; failed = false }) now after more new_marks own known
engine_more old new stage w now a after database more marks new_marks own known es e well solved vars clauses grown whole = record {
  whole = whole;
  own_is = λ _. e.own_is well ∙ sym vars;
  own_clauses = λ _. own_as old.proof.problem new.problem vars clauses (e.own_clauses well);
  knows = λ _. subst (λ xs. AreKnownIn own (old.vars - own) (marked xs) known.rows known.long) (sym grown)
      (known_grows own (old.vars - own) (entries old.proof) es known.rows known.long (e.knows well));
  words = λ _ begun. absurd (true≢false (sym solved ∙ begun));
}

pub engine_solved : (old : SolverState) (begun new : ProofLog) (first : Bool) (assumptions : Clause) (stage : Stage) (answer : Answer) (w now : WatchState)
    (a after : Content) (database more : Database) (marks new_marks : MarkState) (own : ℕ) (known : CountedRows) →
    IsEngine old w a database marks own known → old.failed ≡ false → begun ≡ begun_proof first old.proof assumptions → SomeLemmas begun new →
    stage ≡ stage_of answer → IsWhole (record { proof = new; vars = old.vars; stage = stage; failed = false }) now after.clauses more new_marks →
    IsEngine (record { proof = new; vars = old.vars; stage = stage; failed = false }) now after more new_marks own known
engine_solved old begun new first assumptions stage answer w now a after database more marks new_marks own known e well is lemmas is_stage whole =
    let (es, grown) = lemmas_grow begun new lemmas in
    engine_more old new stage w now a after database more marks new_marks own known es e well (ap is_solved is_stage ∙ solved_after answer)
    (ap (λ (p : Problem). p.vars) lemmas.problem ∙ ap (λ (b : ProofLog). b.problem.vars) is ∙ begun_vars first old.proof assumptions)
    (ap (λ (p : Problem). p.clauses) lemmas.problem ∙ ap (λ (b : ProofLog). b.problem.clauses) is ∙ begun_clauses first old.proof assumptions)
    (grown ∙ ap (λ xs. xs ++ es) (ap entries is ∙ begun_entries old.proof first assumptions)) whole

-- ---- a solve without a search

-- the solver as a solve begins whose values are known
ready_opened : (old : SolverState) (begun : ProofLog) (first : Bool) (a : Clause) → IsReady old → MaySolve old a → old.failed ≡ false →
    first ≡ is_begun old.stage → begun ≡ begun_proof first old.proof a → IsReady (record { proof = begun; vars = old.vars; stage = Solved; failed = false })
ready_opened old begun first a ready may well is_first is =
    let same : begun ≡ begun_proof (is_begun old.stage) old.proof a = is ∙ ap (λ f. begun_proof f old.proof a) is_first in
    let stands = ap standing same ∙ begun_stands old.proof (is_begun old.stage) a in
    record {
      bound = ready.bound;
      range = λ _. subst (All (HasVariables old.vars)) (sym stands) (ready.range well);
      distinct = λ _. subst (All (λ c. has_distinct_variables c ≡ true)) (sym stands) (ready.distinct well);
      fits = λ _. record {
        inside = subst (λ b. IsInside b old.vars) (sym same) (begun_inside old a ready may well);
        phase = ap (λ (b : ProofLog). in_solve (phase_of b.history)) same ∙ begun_phase old.proof (is_begun old.stage) a;
      };
      leaves = λ _. subst (λ (b : ProofLog). StepsLeaveKept b.problem b.history) (sym same) (leaves_begun (is_begun old.stage) old.proof a (ready.leaves well));
    }

pub engine_opened : (old : SolverState) (begun : ProofLog) (first : Bool) (a : Clause) (w now : WatchState) (arena : Content) (database : Database)
    (marks new_marks : MarkState) (own : ℕ) (known : CountedRows) →
    IsEngine old w arena database marks own known → MaySolve old a → old.failed ≡ false → first ≡ is_begun old.stage →
    begun ≡ begun_proof first old.proof a → now.trail.vars ≡ old.vars → KeepsRest w now old.vars → IsClear (old.vars + 1) new_marks →
    IsEngine (record { proof = begun; vars = old.vars; stage = Solved; failed = false }) now arena database new_marks own known
engine_opened old begun first a w now arena database marks new_marks own known e may well is_first is vars rest clear =
    let m = may_search old a first begun e.whole.ready may well is_first is in
    engine_more old begun Solved w now arena arena database database marks new_marks own known [] e well refl
    (ap (λ (b : ProofLog). b.problem.vars) is ∙ begun_vars first old.proof a) (ap (λ (b : ProofLog). b.problem.clauses) is ∙ begun_clauses first old.proof a)
    (m.same ∙ sym (append-nil (entries old.proof)))
    (record {
      ready = ready_opened old begun first a e.whole.ready may well is_first is;
      left = λ _. kept_for_search old a begun w now arena.clauses database marks e.whole well may m.same m.assumed_is rest;
      vars = λ _. omega (arith, vars);
      clear = λ _. subst (λ n. IsClear (n + 1) new_marks) (sym vars) clear;
    })

pub has_opened : (inside now : SolverState) (a : Clause) (first : Bool) (begun : ProofLog) → inside ≡ now → IsReady inside → MaySolve inside a →
    inside.failed ≡ false → first ≡ is_begun inside.stage → begun ≡ begun_proof first inside.proof a →
    HasOpened now (record { proof = begun; vars = inside.vars; stage = Solved; failed = false }) a
has_opened inside now a first begun view_is ready may well is_first is =
    let same : begun ≡ begun_proof (is_begun inside.stage) inside.proof a = is ∙ ap (λ f. begun_proof f inside.proof a) is_first in
    subst (λ s. HasOpened s (record { proof = begun; vars = inside.vars; stage = Solved; failed = false }) a) view_is (record {
      was_well = well;
      proof = same;
      stands = ap standing same ∙ begun_stands inside.proof (is_begun inside.stage) a;
      assumed_is = ap assumed same ∙ begun_assumptions inside a ready may well;
      vars = refl;
      stage = refl;
      well = refl;
    })

-- ---- the end of a step

finished_vars : (b : ProofLog) (end : Option ℕ) → (finished b end).problem.vars ≡ b.problem.vars
finished_vars b None = refl
finished_vars b (Some id) = refl

finished_step : (b : ProofLog) (end : Option ℕ) → step_of (finished b end).history ≡ step_of b.history
finished_step b None = refl
finished_step b (Some id) = refl

finished_next : (b : ProofLog) (end : Option ℕ) (activation : Literal) → unit_of (finished b end) activation ≡ unit_of b activation
finished_next b None activation = refl
finished_next b (Some id) activation = refl

-- how many activation literals there are
pub activations_are : (b : ProofLog) (vars own : ℕ) → IsInside b vars → own ≡ b.problem.vars → vars - own ≡ step_of b.history
activations_are b vars own inside is = let v = inside.vars_is in omega (arith, v, is)

-- the ids that were noted are those that the log names
pub noted_leave : (b fin ret : ProofLog) (end : Option ℕ) (vars own steps : ℕ) (activation : Literal) (ids : List ℕ) → fin ≡ finished b end → ret ≡ retired fin →
    entries ret ≡ entries fin ++ unit_of fin activation ∷ [] → IsInside b vars → own ≡ b.problem.vars → steps ≡ vars - own →
    ids ≡ map (λ (e : Entry). e.id) (going b.problem steps (entries b ++ unit_of b activation ∷ [])) → ids ≡ leaving fin
noted_leave b fin ret end vars own steps activation ids is_fin is_ret grown inside own_is steps_is ids_are =
    let same_entries : entries b ++ unit_of b activation ∷ [] ≡ entries (retired fin) =
    (λ i. sym (finished_entries b fin end is_fin) i ++ sym (ap (λ x. unit_of x activation) is_fin ∙ finished_next b end activation) i ∷ []) ∙ sym grown ∙
    ap entries is_ret in
    let same_problem : b.problem ≡ fin.problem = sym (ap (λ (x : ProofLog). x.problem) is_fin ∙ finished_problem b end) in
    let same_step : steps ≡ step_of fin.history = steps_is ∙ activations_are b vars own inside own_is ∙
    sym (ap (λ (x : ProofLog). step_of x.history) is_fin ∙ finished_step b end) in
    ids_are ∙ (λ i. map (λ (e : Entry). e.id) (going (same_problem i) (same_step i) (same_entries i)))

-- the lemmas that stay name no activation literal
stays_free : (own steps : ℕ) (p : Problem) (es before : List Entry) → own ≡ p.vars → filter is_lemma es ≡ kept_lemmas p steps before →
    list_any is_block es ≡ false → (e : Entry) → Contains (marked es) e → is_free own steps e ≡ true
stays_free own steps p es before own_is lemmas blocks e there =
    let in_es = filter_cases is_lemma_or_block es e there in
    let lemma : is_lemma e ≡ true = by_origin e.origin (in_es.1) (no_block es e in_es.0 blocks) in
    let kept = filter_cases (is_kept p steps before) before e (subst (λ xs. Contains xs e) lemmas (filter_from is_lemma es e in_es.0 lemma)) in
    ap (λ n. is_lemma e && not (has_retired_activation (over n) steps e.literals)) own_is ∙ (and_parts (is_free_lemma p steps e) _ kept.1).0
  where
    no_block : (xs : List Entry) (x : Entry) → Contains xs x → list_any is_block xs ≡ false → is_block x ≡ false
    no_block [] x c off = absurd (nothing_in x c)
    no_block (y ∷ xs) x c off = elim (contains_cases y xs x c) [
      | inl same ↦ subst (λ z. is_block z ≡ false) same (left_off (is_block y) (list_any is_block xs) off)
      | inr later ↦ no_block xs x later (right_off (is_block y) (list_any is_block xs) off)
    ]
      where
        left_off : (a b : Bool) → (a || b) ≡ false → a ≡ false
        left_off true b off = absurd (true≢false off)
        left_off false b off = refl

        right_off : (a b : Bool) → (a || b) ≡ false → b ≡ false
        right_off true b off = absurd (true≢false off)
        right_off false b off = off

    by_origin : (o : Origin) → is_lemma_or_block (record { id = e.id; origin = o; literals = e.literals }) ≡ true →
        is_block (record { id = e.id; origin = o; literals = e.literals }) ≡ false → is_lemma (record { id = e.id; origin = o; literals = e.literals }) ≡ true
    by_origin Axiom m b = absurd (false≢true m)
    by_origin Learnt m b = refl
    by_origin FromBlock m b = absurd (true≢false b)
    by_origin Retired m b = absurd (false≢true m)

-- what the last step has left
left_last : (fin : ProofLog) (ids : List ℕ) → StepsLeaveKept (without (retired fin) ids).problem (without (retired fin) ids).history →
    LeavesKept fin.problem (step_of fin.history) (retired fin).history (without (retired fin) ids).history
left_last fin [] leaves = leaves.0
left_last fin (id ∷ ids) leaves = leaves.0

pub engine_ended : (old : SolverState) (fin ret new : ProofLog) (end : Option ℕ) (activation : Literal) (ids : List ℕ) (steps : ℕ) (w empty mid now : WatchState)
    (a : Content) (between : List Held) (after : Content) (database held less : Database) (marks : MarkState) (own : ℕ) (known later : CountedRows) →
    IsEngine old w a database marks own known → old.failed ≡ false → IsInside old.proof old.vars → is_solved old.stage ≡ true →
    empty.trail.vars ≡ w.trail.vars → IsAtRest old.proof empty a.clauses database → fin ≡ finished old.proof end → ret ≡ retired fin → new ≡ without ret ids →
    entries ret ≡ entries fin ++ unit_of fin activation ∷ [] → entries new ≡ without_ids ids (entries ret) → steps ≡ old.vars - own →
    HoldsEntries mid.lists between held (entries old.proof ++ unit_of old.proof activation ∷ []) → mid.trail.vars ≡ empty.trail.vars →
    IsGround (entries old.proof ++ unit_of old.proof activation ∷ []) held.shorts.items between mid.trail.places → mid.levels ≡ empty.levels →
    HasSettled own steps mid now between after.clauses held less ids later → after.words ≤ 2 * live_words after.clauses →
    IsReady (record { proof = new; vars = old.vars; stage = Idle; failed = false }) →
    IsEngine (record { proof = new; vars = old.vars; stage = Idle; failed = false }) now after less marks own later
engine_ended old fin ret new end activation ids steps w empty mid now a between after database held less marks own known later e well inside solved
    empty_vars rest is_fin is_ret is_new grown gone steps_is holds_entries trail_vars ground levels settled words ready =
    let es : List Entry = entries old.proof ++ unit_of old.proof activation ∷ [] in
    let same : es ≡ entries ret =
    (λ i. sym (finished_entries old.proof fin end is_fin) i ++ sym (ap (λ x. unit_of x activation) is_fin ∙ finished_next old.proof end activation) i ∷ []) ∙ sym grown in
    let left : without_ids ids es ≡ entries new = ap (without_ids ids) same ∙ sym gone in
    let v = watch_vars old w a.clauses database marks e.whole well solved in
    let vars : now.trail.vars ≡ w.trail.vars = settled.vars ∙ trail_vars ∙ empty_vars in
    let new_is : new ≡ without (retired fin) ids = is_new ∙ ap (λ x. without x ids) is_ret in
    let own_fin : own ≡ fin.problem.vars = e.own_is well ∙ sym (ap (λ (x : ProofLog). x.problem.vars) is_fin ∙ finished_vars old.proof end) in
    let same_step : steps ≡ step_of fin.history = steps_is ∙ activations_are old.proof old.vars own inside (e.own_is well) ∙
    sym (ap (λ (x : ProofLog). step_of x.history) is_fin ∙ finished_step old.proof end) in
    let kept = left_last fin ids (subst (λ (x : ProofLog). StepsLeaveKept x.problem x.history) new_is (ready.leaves refl)) in
    let problem : new.problem ≡ fin.problem = ap (λ (x : ProofLog). x.problem) new_is ∙ without_problem (retired fin) ids in
    let here : live fin.problem (without (retired fin) ids).history ≡ entries new =
    ap (λ p. live p (without (retired fin) ids).history) (sym (without_problem (retired fin) ids)) ∙ ap entries (sym new_is) in
    record {
      whole = record {
        ready = ready;
        left = λ _. record {
          holds_entries = subst (HoldsEntries now.lists after.clauses less) left (settled.holds_entries es holds_entries);
          serves = settled.serves;
          ground = subst (λ xs. IsGround xs less.shorts.items after.clauses now.trail.places) left (settled.ground es holds_entries ground);
          levels = settled.levels ∙ levels ∙ rest.levels;
        };
        vars = λ _. omega (arith, v, vars);
        clear = λ _. subst (λ n. IsClear (n + 1) marks) (sym vars) (e.whole.clear well);
      };
      own_is = λ _. own_fin ∙ sym (ap (λ (p : Problem). p.vars) problem);
      own_clauses = λ _. subst IsOwn (sym (problem ∙ ap (λ (x : ProofLog). x.problem) is_fin ∙ finished_problem old.proof end)) (e.own_clauses well);
      knows = λ _.
          let rows : later.rows ≡ length (marked (entries new)) = settled.rows es holds_entries ∙ ap (λ xs. length (marked xs)) left in
          let all : take later.rows (marked (entries new)) ≡ marked (entries new) = take_all later.rows (marked (entries new)) (omega (arith, rows)) in
          subst (λ n. AreKnownIn own n (marked (entries new)) later.rows later.long) steps_is (record {
            low = omega (arith, rows);
            free = subst (All (λ x. is_free own steps x ≡ true)) (sym all) (all_from (λ x. is_free own steps x ≡ true) (marked (entries new))
                (stays_free own steps fin.problem (entries new) (live fin.problem (retired fin).history) own_fin
                (ap (filter is_lemma) (sym here) ∙ kept.lemmas ∙ ap (λ n. kept_lemmas fin.problem n (live fin.problem (retired fin).history)) (sym same_step))
                (ap (list_any is_block) (sym here) ∙ kept.blocks)));
            counted = settled.long es holds_entries ∙ ap (λ xs. count_by (is_free_long own steps) (marked xs)) left ∙
                ap (count_by (is_free_long own steps)) (sym all);
          });
      words = λ _ _. words;
    }

-- ---- what stands for good is of other variables than a block, and than the activation literal

-- a clause of the steps' own variables and of the activation literal
pub record IsOfStep (b : ProofLog) (vars : ℕ) (c : Clause) : Type 0 where
  pub each : (l : Literal) → Contains c l → (l.variable ≤ b.problem.vars) ⊎ (l.variable ≡ vars)

off_ground : (b : ProofLog) (vars : ℕ) (lists : List (List Watcher)) (clauses : List Held) (database : Database) (places : List Place) (c : Clause) →
    HoldsEntries lists clauses database (entries b) → IsGround (entries b) database.shorts.items clauses places → vars ≡ b.problem.vars + step_of b.history →
    IsOfStep b vars c → IsOff places c
off_ground b vars lists clauses database places c s g vars_is of_step = all_from (IsOpenOn (literals_of places)) c (λ l there.
    let gone : (x : Literal) → x.variable ≡ l.variable → ¬ Contains (literals_of places) x = λ x same holds.
    let (k, found) = get_from_Contains (literals_of places) x holds in
    let (p, at, is) = get_map_cases (λ (y : Place). y.literal) places k x found in
    let (j, low, high, activation) = ground_literal b lists clauses database places k p s g at in
    let v = ap (λ (y : Literal). y.variable) (sym is ∙ activation) in
    elim (of_step.each l there) [
      | inl own ↦ omega (arith, own, v, same, low)
      | inr mine ↦ omega (arith, mine, v, same, high, vars_is)
    ] in
    (gone l refl, gone (negation l) refl))

pub kept_grounded : (b : ProofLog) (vars : ℕ) (w : WatchState) (clauses : List Held) (database : Database) (c : Clause) → IsKept b w clauses database →
    vars ≡ b.problem.vars + step_of b.history → IsOfStep b vars c → IsGrounded w c
kept_grounded b vars w clauses database c (inl r) vars_is of_step = record {
  none = λ none. off_ground b vars w.lists clauses database w.trail.places c r.holds_entries r.ground vars_is of_step;
  first = λ v e. absurd (let h = get_within w.levels 0 v e in let n = ap length r.levels in omega (arith, h, n));
}
kept_grounded b vars w clauses database c (inr p) vars_is of_step = record {
  none = λ none. absurd (let some = p.1.running.begun.some in let n = ap length none in omega (arith, some, n));
  first = λ v e. off_ground b vars w.lists clauses database (take v.start w.trail.places) c p.1.running.holds_entries (p.1.running.ground v e) vars_is of_step;
}

pub block_of_step : (b : ProofLog) (vars : ℕ) (lits : Clause) → HasVariables b.problem.vars lits →
    IsOfStep b vars (record { variable = vars; positive = false } ∷ lits)
block_of_step b vars lits range = record {
  each = λ l there. elim (contains_cases (record { variable = vars; positive = false }) lits l there) [
    | inl first ↦ inr (sym (ap (λ (x : Literal). x.variable) first))
    | inr later ↦ inl (All-contains (IsWithin b.problem.vars) lits l range later).1
  ];
}

-- the activation literal has no value once the trail has gone back
pub activation_is_free : (b : ProofLog) (vars : ℕ) (w : WatchState) (clauses : List Held) (database : Database) (l : Literal) → IsAtRest b w clauses database →
    vars ≡ b.problem.vars + step_of b.history → w.trail.vars ≡ vars → l ≡ record { variable = vars; positive = false } → IsUnassigned w.trail l
activation_is_free b vars w clauses database l r vars_is all is = record {
  in_range = (let v = ap (λ (x : Literal). x.variable) is in omega (arith, v, all));
  unassigned = All-contains (IsOpenOn (literals_of w.trail.places)) (l ∷ []) l
      (off_ground b vars w.lists clauses database w.trail.places (l ∷ []) r.holds_entries r.ground vars_is (record {
        each = λ m there. elim (contains_cases l [] m there) [
          | inl same ↦ inr (ap (λ (x : Literal). x.variable) (sym same ∙ is))
          | inr none ↦ absurd (nothing_in m none)
        ];
      })) (contains_first l []);
}

pub begun_own : (b begun : ProofLog) (first : Bool) (a : Clause) → begun ≡ begun_proof first b a → IsOwn b.problem → IsOwn begun.problem
begun_own b begun first a is own = subst (λ (x : ProofLog). IsOwn x.problem) (sym is) (by first)
  where
    by : (f : Bool) → IsOwn (begun_proof f b a).problem
    by true = own
    by false = own
