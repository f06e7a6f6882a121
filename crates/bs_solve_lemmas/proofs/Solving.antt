-- A solver from one call to the next.
use Rattle.std.proofs.Common.{◌≡◌, ℕ, suc, ◌+◌, ◌-◌, ◌<◌, ◌^◌, arith, Bool, true, false, ◌&&◌, List, [], ◌∷◌, ◌++◌, length, refl, sym, ap, subst, ◌∙◌}
use Rattle.std.proofs.Common.{inl, inr, ◌⊎◌, Option, Some, None, Result, Ok, Err, leb}
use Rattle.std.specs.Prelude.{All, IfSome, OnOk, OnErr, slice_get, unwrap_or}
use Rattle.std.specs.List.{AllByRecursion}
use Rattle.std.proofs.lemmas.Bool.{or_left, or_right, and_from, le-leb, true≢false, false≢true}
use Rattle.std.proofs.lemmas.List.{append_assoc, length_push}
use Rattle.std.specs.List.{list_all}
use Rattle.std.proofs.lemmas.List.Elements.{All-contains, All-cons, All-nil, All-push, All-weaker}
use Rattle.bs_clause.specs.Literal.{Literal, Clause, negation, same_literal}
use Rattle.bs_clause.proofs.Literals.{same_literal-refl}
use Rattle.bs_clause.specs.Range.{IsWithin, HasVariables}
use Rattle.bs_log.proofs.Laws.{step_of-positive}
use Rattle.bs_log.specs.declared.line.Line.{Line}
use Rattle.bs_log.specs.declared.line.Line.TheVariants.{Solve, Lemma, Block, Finish, Retire, Delete}
use Rattle.bs_log.specs.History.{Problem, History, Entry, step_of, phase_of, live, state_of, activation_of}
use Rattle.bs_log.specs.Refusal.{in_order, in_solve, is_after_block, is_between_steps, passes, is_lemma, entry_of, denies, assumptions_of}
use Rattle.bs_log.specs.Refusal.{has_distinct_variables, is_block_of}
use Rattle.bs_log.specs.Steps.{is_lemma_line}
use Rattle.bs_solve_lemmas.specs.declared.stage.Stage.{Stage}
use Rattle.bs_solve_lemmas.specs.declared.stage.Stage.TheVariants.{Idle, Begun, Solved, Blocked, Ended, Stopped}
use Rattle.bs_solve_lemmas.specs.declared.answer.Answer.{Answer}
use Rattle.bs_solve_lemmas.specs.declared.answer.Answer.TheVariants.{Found, Refuted, Spent}
use Rattle.bs_log.specs.Lean.{StepsLeaveKept}
use Rattle.bs_solve_lemmas.specs.ProofLog.{ProofLog, standing, next_id, with_line, with_member}
use Rattle.bs_solve_lemmas.specs.Search.{assumed, HasRefuted}
use Rattle.bs_solve_lemmas.specs.Ending.{SomeLemmas, Ends}
use Rattle.bs_solve_lemmas.specs.Stages.{is_begun, is_solved, stage_of, IsIdle, IsBegun, IsInside, IsSearched, IsBlocked, IsEnded, Fits, EndsStep}
use Rattle.bs_solve_lemmas.specs.Stages.{begun_proof, MayBegin}
use Rattle.bs_solve_lemmas.specs.Solver.{SolverState, IsReady, MaySolve, HasSolved, HasBlocked, Follows, finished}
use Rattle.bs_watch.proofs.Gets.{get_last}
use Rattle.bs_solve_lemmas.proofs.Clauses.{distinct_cons}
use Rattle.bs_log.proofs.Histories.{solve_is_inside, block_is_inside}
use Rattle.bs_solve_lemmas.proofs.Lines.{standing_with_member}
use Rattle.bs_solve_lemmas.proofs.Leavings.{leaves_begun, leaves_after}

-- ---- a solve begins

pub may_begin : (s : SolverState) (a : Clause) → IsReady s → MaySolve s a → s.failed ≡ false → MayBegin s.proof (is_begun s.stage)
may_begin s a ready may well = by s.stage (may.stage well) (ready.fits well)
  where
    by : (stage : Stage) → (stage ≡ Begun) ⊎ (stage ≡ Blocked) → Fits stage s.proof s.vars → MayBegin s.proof (is_begun stage)
    by stage (inl is) fits =
        let b : IsBegun s.proof s.vars = subst (λ x. Fits x s.proof s.vars) is fits in
        subst (λ x. MayBegin s.proof (is_begun x)) (sym is) (record { at_first = λ _. (b.phase, b.steps); again = λ e. absurd (true≢false e) })
    by stage (inr is) fits =
        let b : IsBlocked s.proof s.vars = subst (λ x. Fits x s.proof s.vars) is fits in
        subst (λ x. MayBegin s.proof (is_begun x)) (sym is) (record { at_first = λ e. absurd (false≢true e); again = λ _. b.phase })

pub order_at_first : (b : ProofLog) (a : Clause) → MayBegin b true →
    in_order (with_member b a).problem (state_of (with_member b a).problem (with_member b a).history) Solve ≡ true
order_at_first b a may =
    let facts = may.at_first refl in
    or_right (is_after_block (phase_of b.history)) (is_between_steps (phase_of b.history) && leb (step_of b.history) (length (b.problem.steps ++ a ∷ [])))
    (and_from (is_between_steps (phase_of b.history)) (leb (step_of b.history) (length (b.problem.steps ++ a ∷ []))) facts.0
    (le-leb (step_of b.history) (length (b.problem.steps ++ a ∷ [])) (let steps = facts.1 in omega (arith, steps, length_push b.problem.steps a))))

pub order_again : (b : ProofLog) → MayBegin b false → in_order b.problem (state_of b.problem b.history) Solve ≡ true
order_again b may =
    or_left (is_after_block (phase_of b.history)) (is_between_steps (phase_of b.history) && leb (step_of b.history) (length b.problem.steps)) (may.again refl)

pub begun_stands : (b : ProofLog) (first : Bool) (a : Clause) → standing (begun_proof first b a) ≡ standing b
begun_stands b true a = standing_with_member b a
begun_stands b false a = refl

pub begun_phase : (b : ProofLog) (first : Bool) (a : Clause) → in_solve (phase_of (begun_proof first b a).history) ≡ true
begun_phase b true a = refl
begun_phase b false a = refl

-- the assumptions that were added are those of the step
added_assumptions : (b : ProofLog) (a : Clause) → length b.problem.steps + 1 ≡ step_of b.history → assumed (with_member b a) ≡ a
added_assumptions b a steps =
    ap (λ n. unwrap_or (slice_get (b.problem.steps ++ a ∷ []) n) []) (let e : step_of b.history - 1 ≡ length b.problem.steps = omega (arith, steps) in e) ∙
    ap (λ o. unwrap_or o []) (get_last b.problem.steps a)

pub begun_assumptions : (s : SolverState) (a : Clause) → IsReady s → MaySolve s a → s.failed ≡ false → assumed (begun_proof (is_begun s.stage) s.proof a) ≡ a
begun_assumptions s a ready may well = by s.stage (may.stage well) may.again (ready.fits well)
  where
    by : (stage : Stage) → (stage ≡ Begun) ⊎ (stage ≡ Blocked) → (stage ≡ Blocked → assumed s.proof ≡ a) → Fits stage s.proof s.vars →
        assumed (begun_proof (is_begun stage) s.proof a) ≡ a
    by stage (inl is) again fits =
        let b : IsBegun s.proof s.vars = subst (λ x. Fits x s.proof s.vars) is fits in
        subst (λ x. assumed (begun_proof (is_begun x) s.proof a) ≡ a) (sym is) (added_assumptions s.proof a b.steps)
    by stage (inr is) again fits = subst (λ x. assumed (begun_proof (is_begun x) s.proof a) ≡ a) (sym is) (again is)

pub begun_inside : (s : SolverState) (a : Clause) → IsReady s → MaySolve s a → s.failed ≡ false → IsInside (begun_proof (is_begun s.stage) s.proof a) s.vars
begun_inside s a ready may well = by s.stage (may.stage well) (ready.fits well)
  where
    by : (stage : Stage) → (stage ≡ Begun) ⊎ (stage ≡ Blocked) → Fits stage s.proof s.vars → IsInside (begun_proof (is_begun stage) s.proof a) s.vars
    by stage (inl is) fits =
        let b : IsBegun s.proof s.vars = subst (λ x. Fits x s.proof s.vars) is fits in
        let steps = b.steps in
        subst (λ x. IsInside (begun_proof (is_begun x) s.proof a) s.vars) (sym is)
        (record { vars_is = b.vars_is; steps = omega (arith, steps, length_push s.proof.problem.steps a) })
    by stage (inr is) fits =
        let b : IsBlocked s.proof s.vars = subst (λ x. Fits x s.proof s.vars) is fits in
        subst (λ x. IsInside (begun_proof (is_begun x) s.proof a) s.vars) (sym is) (record { vars_is = b.inside.vars_is; steps = b.inside.steps })

-- ---- a solve ends

step_of_lemmas : (lines : List Line) (h : History) → AllByRecursion (λ line. is_lemma_line line ≡ true) lines → step_of (lines ++ h) ≡ step_of h
step_of_lemmas [] h all = refl
step_of_lemmas (Lemma id lits hints ∷ lines) h all = step_of_lemmas lines h all.1
step_of_lemmas (Solve ∷ lines) h all = absurd (false≢true all.0)
step_of_lemmas (Block id lits ∷ lines) h all = absurd (false≢true all.0)
step_of_lemmas (Finish id ∷ lines) h all = absurd (false≢true all.0)
step_of_lemmas (Retire id ∷ lines) h all = absurd (false≢true all.0)
step_of_lemmas (Delete ids ∷ lines) h all = absurd (false≢true all.0)

phase_of_lemmas : (lines : List Line) (h : History) → AllByRecursion (λ line. is_lemma_line line ≡ true) lines → in_solve (phase_of h) ≡ true →
    in_solve (phase_of (lines ++ h)) ≡ true
phase_of_lemmas [] h all inside = inside
phase_of_lemmas (Lemma id lits hints ∷ lines) h all inside = refl
phase_of_lemmas (Solve ∷ lines) h all inside = refl
phase_of_lemmas (Block id lits ∷ lines) h all inside = absurd (false≢true all.0)
phase_of_lemmas (Finish id ∷ lines) h all inside = absurd (false≢true all.0)
phase_of_lemmas (Retire id ∷ lines) h all inside = absurd (false≢true all.0)
phase_of_lemmas (Delete ids ∷ lines) h all inside = absurd (false≢true all.0)

pub searched_after : (begun new : ProofLog) (vars : ℕ) → SomeLemmas begun new → IsInside begun vars → in_solve (phase_of begun.history) ≡ true → IsSearched new vars
searched_after begun new vars l inside phase =
    let same_step : step_of new.history ≡ step_of begun.history = ap step_of l.history ∙ step_of_lemmas l.lines begun.history l.lemmas in
    let same_vars : new.problem.vars ≡ begun.problem.vars = ap (λ (p : Problem). p.vars) l.problem in
    let same_steps : length new.problem.steps ≡ length begun.problem.steps = ap (λ (p : Problem). length p.steps) l.problem in
    record {
      inside = record { vars_is = omega (arith, same_step, same_vars, inside.vars_is); steps = omega (arith, same_step, same_steps, inside.steps) };
      phase = ap (λ h. in_solve (phase_of h)) l.history ∙ phase_of_lemmas l.lines begun.history l.lemmas phase;
    }

-- lemmas leave the step's assumptions
pub assumed_after : (begun new : ProofLog) → SomeLemmas begun new → assumed new ≡ assumed begun
assumed_after begun new l =
    ap (λ p. assumptions_of p (step_of new.history)) l.problem ∙
    ap (assumptions_of begun.problem) (ap step_of l.history ∙ step_of_lemmas l.lines begun.history l.lemmas)

refuted_ends : (old new : ProofLog) (id : ℕ) → HasRefuted old new id →
    (passes is_lemma (entry_of (live new.problem new.history) id) ≡ true) ×
    (passes (λ e. denies (assumed new) e.literals) (entry_of (live new.problem new.history) id) ≡ true)
refuted_ends old new id h = (
  ap (passes is_lemma) h.logged.entry,
  ap (passes (λ (e : Entry). denies (assumed new) e.literals)) h.logged.entry ∙ ap (λ a. denies a h.lemma) (ap assumed h.logged.proof) ∙ h.ends,
)

pub fits_after : (begun new : ProofLog) (vars limit : ℕ) (answer : Answer) → SomeLemmas begun new → IsInside begun vars → in_solve (phase_of begun.history) ≡ true →
    Ends begun new vars limit answer → Fits (stage_of answer) new vars
fits_after begun new vars limit (Found values) l inside phase e = searched_after begun new vars l inside phase
fits_after begun new vars limit (Refuted id) l inside phase e =
    let ends = refuted_ends e.middle new id e.last in
    record { searched = searched_after begun new vars l inside phase; lemma = ends.0; ends = ends.1 }
fits_after begun new vars limit Spent l inside phase e = searched_after begun new vars l inside phase

-- ---- a block

-- the step's activation literal is above the variables of the clauses
pub activation_is_new : (b : ProofLog) (vars : ℕ) → IsInside b vars → b.problem.vars < vars
activation_is_new b vars inside = let positive = step_of-positive b.history in let is = inside.vars_is in omega (arith, positive, is)

pub solved_inside : (inside now : SolverState) → inside ≡ now → IsReady inside → inside.failed ≡ false → (now.failed ≡ false → now.stage ≡ Solved) →
    IsSearched inside.proof inside.vars
solved_inside inside now is ready well stage =
    let solved : inside.stage ≡ Solved = subst (λ (s : SolverState). s.failed ≡ false → s.stage ≡ Solved) (sym is) stage well in
    subst (λ x. Fits x inside.proof inside.vars) solved (ready.fits well)

-- the clause of the negated activation literal and literals of the clauses' own variables
pub block_distinct : (p vars : ℕ) (lits : Clause) → p < vars → HasVariables p lits → has_distinct_variables lits ≡ true →
    has_distinct_variables (record { variable = vars; positive = false } ∷ lits) ≡ true
block_distinct p vars lits above range distinct =
    distinct_cons (record { variable = vars; positive = false }) lits
    (λ m there same. let within = All-contains (IsWithin p) lits m range there in let high = within.1 in omega (arith, high, same, above)) distinct

own_variables : (p : ℕ) (lits : Clause) → HasVariables p lits → list_all (λ (l : Literal). leb l.variable p) lits ≡ true
own_variables p [] range = refl
own_variables p (l ∷ lits) range =
    and_from (leb l.variable p) (list_all (λ (m : Literal). leb m.variable p) lits) (le-leb l.variable p (range 0 l (omega arith)).1)
    (own_variables p lits (λ k d h. range (suc k) d (omega (arith, h))))

pub block_fits : (b : ProofLog) (vars : ℕ) (lits : Clause) → IsInside b vars → HasVariables b.problem.vars lits →
    is_block_of b.problem (step_of b.history) (record { variable = vars; positive = false } ∷ lits) ≡ true
block_fits b vars lits inside range =
    let first : Literal = record { variable = vars; positive = false } in
    let activation : Literal = negation (activation_of b.problem (step_of b.history)) in
    let same : first ≡ activation = λ i. record { variable = inside.vars_is i; positive = false } in
    and_from (same_literal first activation) (list_all (λ (l : Literal). leb l.variable b.problem.vars) lits)
    (ap (same_literal first) (sym same) ∙ same_literal-refl first) (own_variables b.problem.vars lits range)

pub block_range : (p vars : ℕ) (lits : Clause) → p < vars → HasVariables p lits → HasVariables vars (record { variable = vars; positive = false } ∷ lits)
block_range p vars lits above range =
    All-cons (IsWithin vars) (record { variable = vars; positive = false }) lits (omega (arith, above), omega arith)
    (All-weaker (IsWithin p) (IsWithin vars) (λ l within. let low = within.0 in let high = within.1 in (low, omega (arith, high, above))) lits range)

-- the solver after a block
pub ready_blocked : (old new : ProofLog) (vars id : ℕ) (clause : Clause) → vars < 2 ^ 30 → IsSearched old vars → All (HasVariables vars) (standing old) →
    All (λ c. has_distinct_variables c ≡ true) (standing old) → StepsLeaveKept old.problem old.history → new ≡ with_line old (Block id clause) →
    standing new ≡ standing old ++ clause ∷ [] → HasVariables vars clause → has_distinct_variables clause ≡ true →
    IsReady (record { proof = new; vars = vars; stage = Blocked; failed = false })
ready_blocked old new vars id clause bound searched range distinct leaves is stands range_c distinct_c = record {
  bound = bound;
  range = λ _. subst (All (HasVariables vars)) (sym stands) (All-push (HasVariables vars) (standing old) clause range range_c);
  distinct = λ _. subst (All (λ c. has_distinct_variables c ≡ true)) (sym stands)
      (All-push (λ c. has_distinct_variables c ≡ true) (standing old) clause distinct distinct_c);
  fits = λ _. subst (λ b. IsBlocked b vars) (sym is)
      (record { inside = record { vars_is = searched.inside.vars_is; steps = searched.inside.steps }; phase = refl });
  leaves = λ _. subst (λ b. StepsLeaveKept b.problem b.history) (sym is) leaves;
}

-- ---- the end of a step

-- a step that has had a solve
pub solved_stage : (stage : Stage) (b : ProofLog) (vars : ℕ) → is_solved stage ≡ true → Fits stage b vars →
    IsInside b vars × (is_between_steps (phase_of b.history) ≡ false)
solved_stage Idle b vars e fits = absurd (false≢true e)
solved_stage Begun b vars e fits = absurd (false≢true e)
solved_stage Solved b vars e fits = (fits.inside, solve_is_inside (phase_of b.history) fits.phase)
solved_stage Blocked b vars e fits = (fits.inside, block_is_inside (phase_of b.history) fits.phase)
solved_stage (Ended id) b vars e fits = (fits.searched.inside, solve_is_inside (phase_of b.history) fits.searched.phase)
solved_stage Stopped b vars e fits = (fits.inside, solve_is_inside (phase_of b.history) fits.phase)

pub step_facts : (inside now : SolverState) → inside ≡ now → IsReady inside → inside.failed ≡ false → (now.failed ≡ false → is_solved now.stage ≡ true) →
    IsInside inside.proof inside.vars × (is_between_steps (phase_of inside.proof.history) ≡ false)
step_facts inside now is ready well stage =
    let solved : is_solved inside.stage ≡ true = subst (λ (s : SolverState). s.failed ≡ false → is_solved s.stage ≡ true) (sym is) stage well in
    solved_stage inside.stage inside.proof inside.vars solved (ready.fits well)

pub ends_step : (inside now : SolverState) → inside ≡ now → IsReady inside → inside.failed ≡ false → (end : Option ℕ) →
    IfSome end (λ id. now.failed ≡ false → now.stage ≡ Ended id) →
    IfSome end (EndsStep inside.proof)
ends_step inside now is ready well None stage = tt
ends_step inside now is ready well (Some id) stage =
    let ended : inside.stage ≡ Ended id = subst (λ (s : SolverState). s.failed ≡ false → s.stage ≡ Ended id) (sym is) stage well in
    let facts : IsEnded inside.proof inside.vars id = subst (λ x. Fits x inside.proof inside.vars) ended (ready.fits well) in
    record { phase = facts.searched.phase; lemma = facts.lemma; ends = facts.ends }

pub finished_inside : (b : ProofLog) (vars : ℕ) (end : Option ℕ) → IsInside b vars → is_between_steps (phase_of b.history) ≡ false →
    IsInside (finished b end) vars × (is_between_steps (phase_of (finished b end).history) ≡ false)
finished_inside b vars None inside phase = (inside, phase)
finished_inside b vars (Some id) inside phase = (record { vars_is = inside.vars_is; steps = inside.steps }, refl)

pub finished_stands : (b : ProofLog) (end : Option ℕ) → standing (finished b end) ≡ standing b
finished_stands b None = refl
finished_stands b (Some id) = refl

finished_activation : (b : ProofLog) (end : Option ℕ) → activation_of (finished b end).problem (step_of (finished b end).history) ≡ activation_of b.problem (step_of b.history)
finished_activation b None = refl
finished_activation b (Some id) = refl

pub finished_phase : (b fin : ProofLog) (vars : ℕ) (end : Option ℕ) → fin ≡ finished b end → IsInside b vars →
    is_between_steps (phase_of b.history) ≡ false → is_between_steps (phase_of fin.history) ≡ false
finished_phase b fin vars end is inside phase = ap (λ (x : ProofLog). is_between_steps (phase_of x.history)) is ∙ (finished_inside b vars end inside phase).1

pub activation_is : (b fin : ProofLog) (vars : ℕ) (end : Option ℕ) → fin ≡ finished b end → IsInside b vars → is_between_steps (phase_of b.history) ≡ false →
    record { variable = vars; positive = true } ≡ activation_of fin.problem (step_of fin.history)
activation_is b fin vars end is inside phase =
    let here : record { variable = vars; positive = true } ≡ activation_of b.problem (step_of b.history) =
    λ i. record { variable = inside.vars_is i; positive = true } in
    here ∙ sym (finished_activation b end) ∙ ap (λ (x : ProofLog). activation_of x.problem (step_of x.history)) (sym is)

-- ---- the solver after a solve

pub ready_after_solve : (inside : SolverState) (a : Clause) (first : Bool) (begun new : ProofLog) (limit : ℕ) (answer : Answer) (stage : Stage) →
    IsReady inside → MaySolve inside a → inside.failed ≡ false →
    first ≡ is_begun inside.stage → begun ≡ begun_proof first inside.proof a → SomeLemmas begun new → Ends begun new inside.vars limit answer →
    All (HasVariables inside.vars) (standing new) →
    All (λ c. has_distinct_variables c ≡ true) (standing new) → stage ≡ stage_of answer →
    IsReady (record { proof = new; vars = inside.vars; stage = stage; failed = false })
ready_after_solve inside a first begun new limit answer stage ready may well is_first is lemmas ends range distinct is_stage =
    let is_begun_proof : begun ≡ begun_proof (is_begun inside.stage) inside.proof a = is ∙ ap (λ f. begun_proof f inside.proof a) is_first in
    record {
      bound = ready.bound;
      range = λ _. range;
      distinct = λ _. distinct;
      fits = λ _. subst (λ x. Fits x new inside.vars) (sym is_stage)
          (fits_after begun new inside.vars limit answer lemmas (subst (λ b. IsInside b inside.vars) (sym is_begun_proof) (begun_inside inside a ready may well))
          (ap (λ (b : ProofLog). in_solve (phase_of b.history)) is_begun_proof ∙ begun_phase inside.proof (is_begun inside.stage) a) ends);
      leaves = λ _. leaves_after begun new lemmas (subst (λ b. StepsLeaveKept b.problem b.history) (sym is_begun_proof)
          (leaves_begun (is_begun inside.stage) inside.proof a (ready.leaves well)));
    }

pub has_solved : (inside now : SolverState) (a : Clause) (first : Bool) (begun new : ProofLog) (limit : ℕ) (answer : Answer) (stage : Stage) →
    inside ≡ now → IsReady inside → MaySolve inside a → inside.failed ≡ false →
    first ≡ is_begun inside.stage → begun ≡ begun_proof first inside.proof a → Ends begun new inside.vars limit answer → SomeLemmas begun new →
    stage ≡ stage_of answer →
    HasSolved now (record { proof = new; vars = inside.vars; stage = stage; failed = false }) a limit answer
has_solved inside now a first begun new limit answer stage is ready may well is_first is_begun_first ends lemmas is_stage =
    let is_begun_proof : begun ≡ begun_proof (is_begun inside.stage) inside.proof a = is_begun_first ∙ ap (λ f. begun_proof f inside.proof a) is_first in
    let solved : HasSolved inside (record { proof = new; vars = inside.vars; stage = stage; failed = false }) a limit answer = record {
      was_well = well;
      stands = begun_stands inside.proof (is_begun inside.stage) a;
      assumed_is = begun_assumptions inside a ready may well;
      ends = subst (λ b. Ends b new inside.vars limit answer) is_begun_proof ends;
      step = assumed_after begun new lemmas ∙ ap assumed is_begun_proof ∙ begun_assumptions inside a ready may well;
      vars = refl;
      stage = is_stage;
      well = refl;
    } in
    subst (λ s. HasSolved s (record { proof = new; vars = inside.vars; stage = stage; failed = false }) a limit answer) is solved

pub has_blocked : (inside now : SolverState) (new : ProofLog) (lits clause : Clause) (id : ℕ) → inside ≡ now → inside.failed ≡ false →
    IsInside inside.proof inside.vars →
    clause ≡ record { variable = inside.vars; positive = false } ∷ lits → id ≡ next_id inside.proof →
    new ≡ with_line inside.proof (Block id clause) →
    standing new ≡ standing inside.proof ++ clause ∷ [] → HasBlocked now (record { proof = new; vars = inside.vars; stage = Blocked; failed = false }) lits id
has_blocked inside now new lits clause id is well here is_clause next line stands =
    let b : ProofLog = inside.proof in
    let is_activation : record { variable = inside.vars; positive = false } ≡ negation (activation_of b.problem (step_of b.history)) =
    λ i. record { variable = here.vars_is i; positive = false } in
    let clause_is : clause ≡ negation (activation_of b.problem (step_of b.history)) ∷ lits = is_clause ∙ ap (λ l. l ∷ lits) is_activation in
    let blocked : HasBlocked inside (record { proof = new; vars = inside.vars; stage = Blocked; failed = false }) lits id = record {
      was_well = well;
      next = next;
      proof = line ∙ ap (λ c. with_line b (Block id c)) clause_is;
      stands = stands ∙ ap (λ c. standing b ++ c ∷ []) clause_is;
      step = ap assumed line;
      vars = refl;
      stage = refl;
      well = refl;
    } in
    subst (λ s. HasBlocked s (record { proof = new; vars = inside.vars; stage = Blocked; failed = false }) lits id) is blocked

-- ---- what is logged, whatever the answer

pub follows_same : (first : Bool) (b : ProofLog) (a : Clause) → Follows first b b a
follows_same first b a = record { lines = []; history = refl; vars = refl; clauses = refl; steps = inl refl }

pub follows_member : (b new : ProofLog) (a : Clause) → new ≡ with_member b a → Follows true b new a
follows_member b new a is = subst (λ x. Follows true b x a) (sym is)
    (record { lines = []; history = refl; vars = refl; clauses = refl; steps = inr (refl, refl) })

pub follows_lemmas : (first : Bool) (b begun new : ProofLog) (a : Clause) → Follows first b begun a → SomeLemmas begun new → Follows first b new a
follows_lemmas first b begun new a f l = record {
  lines = l.lines ++ f.lines;
  history = l.history ∙ ap (λ h. l.lines ++ h) f.history ∙ sym (append_assoc l.lines f.lines b.history);
  vars = ap (λ (p : Problem). p.vars) l.problem ∙ f.vars;
  clauses = ap (λ (p : Problem). p.clauses) l.problem ∙ f.clauses;
  steps = elim (f.steps) [
    | inl same ↦ inl (ap (λ (p : Problem). p.steps) l.problem ∙ same)
    | inr more ↦ inr (more.0, ap (λ (p : Problem). p.steps) l.problem ∙ more.1)
  ];
}

follows_line : (first : Bool) (b new : ProofLog) (a : Clause) (line : Line) → Follows first b new a → Follows first b (with_line new line) a
follows_line first b new a line f = record {
  lines = line ∷ f.lines;
  history = ap (λ h. line ∷ h) f.history;
  vars = f.vars;
  clauses =
      f.clauses;
  steps = f.steps;
}

-- a line that was logged, if there was memory
pub follows_log : {T E : Type 0} (r : Result T E) (first : Bool) (b middle new : ProofLog) (a : Clause) (line : Line) →
    OnOk r (new ≡ with_line middle line) → OnErr r (new ≡ middle) →
    Follows first b middle a → Follows first b new a
follows_log (Ok x) first b middle new a line ok err f = subst (λ n. Follows first b n a) (sym ok) (follows_line first b middle a line f)
follows_log (Err e) first b middle new a line ok err f = subst (λ n. Follows first b n a) (sym err) f
