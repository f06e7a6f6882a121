-- The end of a step: the retire line, and the line of what is not kept.
use Rattle.std.proofs.Common.{◌≡◌, ℕ, suc, ◌+◌, ◌-◌, ◌<◌, ◌≤◌, ◌^◌, arith, Bool, true, false, not, List, [], ◌∷◌, ◌++◌, map, length, refl, sym, ap, subst, ◌∙◌}
use Rattle.std.proofs.Common.{Option, Some, None, Result, Ok, Err}
use Rattle.std.specs.Prelude.{All, Contains, OnOk}
use Rattle.std.specs.List.{filter}
use Rattle.std.proofs.lemmas.List.{map-append}
use Rattle.std.proofs.lemmas.List.Elements.{All-contains, All-cons, All-nil, All-push}
use Rattle.bs_clause.specs.Literal.{Literal, Clause, negation}
use Rattle.bs_clause.specs.Range.{IsWithin, HasVariables}
use Rattle.bs_log.specs.declared.line.Line.TheVariants.{Retire, Delete}
use Rattle.bs_log.specs.declared.origin.Origin.TheVariants.{Retired}
use Rattle.bs_log.specs.History.{Problem, History, Entry, step_of, phase_of, live, state_of, activation_of}
use Rattle.bs_log.specs.Refusal.{is_between_steps, has_distinct_variables, refusal}
use Rattle.bs_log.specs.Lean.{LeavesKept, StepsLeaveKept}
use Rattle.bs_log.proofs.Laws.{step_of-positive}
use Rattle.bs_solve_lemmas.specs.Rows.{AreInOrder, going}
use Rattle.bs_solve_lemmas.proofs.Deletions.{delete_is_right, delete_leaves_kept, nothing_leaves_kept}
use Rattle.bs_solve_lemmas.specs.declared.stage.Stage.TheVariants.{Idle}
use Rattle.bs_solve_lemmas.specs.Ids.{is_among}
use Rattle.bs_solve_lemmas.specs.ProofLog.{ProofLog, standing, next_id, with_line, without}
use Rattle.bs_solve_lemmas.specs.Stages.{IsInside, IsIdle}
use Rattle.bs_solve_lemmas.specs.Solver.{SolverState, IsReady, HasEnded, finished, retired, leaving, ended}
use Rattle.bs_solve_lemmas.proofs.Clauses.{all_from, map_cases, filter_cases, map_contains}
use Rattle.bs_solve_lemmas.proofs.ProofLogs.{without_stands}
use Rattle.bs_solve_lemmas.proofs.Solving.{finished_inside, finished_stands}

-- the line of those that go is right
pub leaving_is_right : (fin ret : ProofLog) → ret ≡ retired fin → AreInOrder (live ret.problem ret.history) →
    refusal ret.problem (state_of ret.problem ret.history) (Delete (leaving fin)) ≡ None
leaving_is_right fin ret is order =
    subst (λ (b : ProofLog). refusal b.problem (state_of b.problem b.history) (Delete (leaving fin)) ≡ None) (sym is)
    (delete_is_right fin.problem (step_of fin.history) (next_id fin) fin.history
    (subst (λ (b : ProofLog). AreInOrder (live b.problem b.history)) is order))

-- what stands after the lines that end a step, if they came
pub stands_at_end : {T E : Type 0} (r : Result T E) (old new : ProofLog) (ids : List ℕ) → OnOk r (new ≡ without (retired old) ids) →
    OnOk r (live new.problem new.history ≡ filter (λ e. not (is_among ids e.id)) (live (retired old).problem (retired old).history))
stands_at_end (Ok x) old new ids is = ap (λ (b : ProofLog). live b.problem b.history) is ∙ without_stands (retired old) ids
stands_at_end (Err e) old new ids is = tt

-- the same, where nothing goes
pub stands_at_bare_end : {T E : Type 0} (r : Result T E) (old new : ProofLog) (ids : List ℕ) → length ids ≡ 0 → OnOk r (new ≡ retired old) →
    OnOk r (live new.problem new.history ≡ filter (λ e. not (is_among ids e.id)) (live (retired old).problem (retired old).history))
stands_at_bare_end r old new [] none is = stands_at_end r old new [] is
stands_at_bare_end r old new (id ∷ ids) none is = absurd (omega (arith, none))

-- what stands after a step's end stood before it, or is the unit of the negated activation literal
standing_after : (fin ret new : ProofLog) (ids : List ℕ) (unit : Clause) → standing ret ≡ standing fin ++ unit ∷ [] → new ≡ without ret ids →
    (P : Clause → Type 0) → All P (standing fin) → P unit → All P (standing new)
standing_after fin ret new ids unit grown is P all one = all_from P (standing new) (λ c there.
    let (e, in_new, is_c) = map_cases (λ (x : Entry). x.literals) (live new.problem new.history) c there in
    let in_left : Contains (filter (λ x. not (is_among ids x.id)) (live ret.problem ret.history)) e =
    subst (λ es. Contains es e) (ap (λ (b : ProofLog). live b.problem b.history) is ∙ without_stands ret ids) in_new in
    let in_ret = (filter_cases (λ (x : Entry). not (is_among ids x.id)) (live ret.problem ret.history) e in_left).0 in
    subst P is_c (All-contains P (standing ret) e.literals
    (subst (All P) (sym grown) (All-push P (standing fin) unit all one))
    (map_contains (λ (x : Entry). x.literals) (live ret.problem ret.history) e in_ret)))

-- each step has left what is kept
leaves_ended : (fin : ProofLog) (ids : List ℕ) → ids ≡ leaving fin → AreInOrder (live fin.problem (Retire (next_id fin) ∷ fin.history)) →
    StepsLeaveKept fin.problem fin.history → StepsLeaveKept (without (retired fin) ids).problem (without (retired fin) ids).history
leaves_ended fin [] is order leaves =
    (nothing_leaves_kept fin.problem (step_of fin.history) (Retire (next_id fin) ∷ fin.history) (sym is), leaves)
leaves_ended fin (id ∷ ids) is order leaves = (
  subst (λ gone. LeavesKept fin.problem (step_of fin.history) (Retire (next_id fin) ∷ fin.history) (Delete gone ∷ Retire (next_id fin) ∷ fin.history))
      (sym is) (delete_leaves_kept fin.problem (step_of fin.history) (Retire (next_id fin) ∷ fin.history) order),
  leaves,
)

idle_after : (fin : ProofLog) (vars : ℕ) (ids : List ℕ) → IsInside fin vars → IsIdle (without (retired fin) ids) vars
idle_after fin vars [] inside =
    let vars_is = inside.vars_is in let steps = inside.steps in
    record { phase = refl; vars_is = omega (arith, vars_is); steps = omega (arith, steps) }
idle_after fin vars (id ∷ ids) inside =
    let vars_is = inside.vars_is in let steps = inside.steps in
    record { phase = refl; vars_is = omega (arith, vars_is); steps = omega (arith, steps) }

-- the solver after the end of a step
pub ready_after_end : (inside : SolverState) (fin ret new : ProofLog) (end : Option ℕ) (activation : Literal) (ids : List ℕ) → IsReady inside →
    inside.failed ≡ false → IsInside inside.proof inside.vars → is_between_steps (phase_of inside.proof.history) ≡ false → fin ≡ finished inside.proof end →
    activation ≡ record { variable = inside.vars; positive = true } → ret ≡ retired fin →
    live ret.problem ret.history ≡ live fin.problem fin.history ++ record { id = next_id fin; origin = Retired; literals = negation activation ∷ [] } ∷ [] →
    AreInOrder (live ret.problem ret.history) → ids ≡ leaving fin → new ≡ without ret ids →
    IsReady (record { proof = new; vars = inside.vars; stage = Idle; failed = false })
ready_after_end inside fin ret new end activation ids ready well here phase is is_activation is_ret grown order is_ids is_new =
    let b : ProofLog = inside.proof in
    let vars = inside.vars in
    let fin_stands : standing fin ≡ standing b = ap standing is ∙ finished_stands b end in
    let ret_stands : standing ret ≡ standing fin ++ (negation activation ∷ []) ∷ [] =
    ap (map (λ (e : Entry). e.literals)) grown ∙
    map-append (λ (e : Entry). e.literals) (live fin.problem fin.history)
    (record { id = next_id fin; origin = Retired; literals = negation activation ∷ [] } ∷ []) in
    let new_is : new ≡ without (retired fin) ids = is_new ∙ ap (λ x. without x ids) is_ret in
    let here_fin : IsInside fin vars = subst (λ x. IsInside x vars) (sym is) (finished_inside b vars end here phase).0 in
    let positive = step_of-positive fin.history in
    let vars_is = here_fin.vars_is in
    let unit_variable : activation.variable ≡ vars = ap (λ (l : Literal). l.variable) is_activation in
    record {
      bound = ready.bound;
      range = λ _. standing_after fin ret new ids (negation activation ∷ []) ret_stands is_new (HasVariables vars)
          (subst (All (HasVariables vars)) (sym fin_stands) (ready.range well))
          (All-cons (IsWithin vars) (negation activation) [] (omega (arith, positive, vars_is, unit_variable), omega (arith, unit_variable))
          (All-nil (IsWithin vars)));
      distinct = λ _. standing_after fin ret new ids (negation activation ∷ []) ret_stands is_new (λ c. has_distinct_variables c ≡ true)
          (subst (All (λ c. has_distinct_variables c ≡ true)) (sym fin_stands) (ready.distinct well)) refl;
      fits = λ _. subst (λ x. IsIdle x vars) (sym new_is) (idle_after fin vars ids here_fin);
      leaves = λ _. subst (λ (x : ProofLog). StepsLeaveKept x.problem x.history) (sym new_is)
          (leaves_ended fin ids is_ids (subst (λ (x : ProofLog). AreInOrder (live x.problem x.history)) is_ret order)
          (leaves_finished fin b end is (ready.leaves well)));
    }
  where
    leaves_finished : (x b : ProofLog) (last : Option ℕ) → x ≡ finished b last → StepsLeaveKept b.problem b.history → StepsLeaveKept x.problem x.history
    leaves_finished x b None same leaves = subst (λ (y : ProofLog). StepsLeaveKept y.problem y.history) (sym same) leaves
    leaves_finished x b (Some id) same leaves = subst (λ (y : ProofLog). StepsLeaveKept y.problem y.history) (sym same) leaves

pub has_ended : (inside now : SolverState) (fin ret new : ProofLog) (end : Option ℕ) (ids : List ℕ) → inside ≡ now → inside.failed ≡ false →
    fin ≡ finished inside.proof end → ret ≡ retired fin → ids ≡ leaving fin → new ≡ without ret ids →
    HasEnded now (record { proof = new; vars = inside.vars; stage = Idle; failed = false }) end
has_ended inside now fin ret new end ids is well is_fin is_ret is_ids is_new =
    let done : HasEnded inside (record { proof = new; vars = inside.vars; stage = Idle; failed = false }) end = record {
      was_well = well;
      proof = is_new ∙ ap (λ x. without x ids) is_ret ∙ ap (without (retired fin)) is_ids ∙ ap ended is_fin;
      vars = refl;
      stage = refl;
      well = refl;
    } in
    subst (λ s. HasEnded s (record { proof = new; vars = inside.vars; stage = Idle; failed = false }) end) is done
