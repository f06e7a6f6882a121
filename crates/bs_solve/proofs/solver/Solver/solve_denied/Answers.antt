use Rattle.std.proofs.Common.{◌≡◌, ◌<◌, ◌+◌, ◌^◌, ◌∙◌, true, false, ap, sym, subst, arith, refl}
use Rattle.std.specs.Prelude.{All}
use Rattle.bs_log.specs.History.{axioms_from}
use Rattle.bs_log.specs.Refusal.{has_distinct_variables, denies, NoneRefused}
use Rattle.bs_solve_lemmas.specs.declared.answer.Answer.TheVariants.{Refuted}
use Rattle.bs_solve_lemmas.specs.declared.stage.Stage.TheVariants.{Begun, Ended}
use Rattle.bs_solve_lemmas.specs.ProofLog.{ProofLog}
use Rattle.bs_solve_lemmas.specs.Walk.{IsLoggedLearnt}
use Rattle.bs_solve_lemmas.specs.Stages.{is_begun}
use Rattle.bs_solve_lemmas.specs.Solver.{SolverState, MaySolve, Follows}
use Rattle.bs_solve_lemmas.proofs.CallerLemmas.{begun_clauses}
use Rattle.bs_solve_lemmas.proofs.Endings.{no_lemmas, some_and_last}
use Rattle.bs_solve_lemmas.proofs.Solving.{follows_lemmas}
use Rattle.bs_solve_lemmas.proofs.Standing.{learnt_of_axioms}
use Rattle.bs_solve_lemmas.specs.Marks.{IsClear}
use Rattle.bs_solve.proofs.Refutings.{over_at_once}
use Rattle.bs_solve.specs.Failure.{FailsBy}
use Rattle.bs_solve.specs.Starting.{IsLeftAt}
use Rattle.bs_solve.proofs.Engines.{engine_solved}
use Rattle.bs_solve.proofs.Startings.{few_new, may_search, ranges_as, rest_in, whole_after_solve, solved_over}
use Rattle.bs_solve.proofs.solver.Solver.solve_denied.Goals as goal

pub grow_to-requires-clause-low : goal.grow_to-requires-clause-low
grow_to-requires-clause-low c = let v = c.self.invariant.whole.vars c.if-self.false in omega (arith, v)

pub grow_to-requires-clause-high : goal.grow_to-requires-clause-high
grow_to-requires-clause-high c =
    let v = c.self.invariant.whole.vars c.if-self.false in let few = few_new c.self.inside.stage in omega (arith, v, few)

pub grow_to-requires-clause-clear : goal.grow_to-requires-clause-clear
grow_to-requires-clause-clear c = c.self.invariant.whole.clear c.if-self.false

pub end_by-requires-clause-rest : goal.end_by-requires-clause-rest
end_by-requires-clause-rest c =
    let inside : SolverState = record { proof = c.self.inside.proof; vars = c.self.inside.vars; stage = c.self.inside.stage; failed = c.self.inside.failed } in
    let m = may_search inside c.args.assumptions.now c.is_begun.result c.begin_solve.new.proof c.self.invariant.whole.ready
    (subst (λ s. MaySolve s c.args.assumptions.now) (sym c.self.view_is) c.requires.stage) c.if-self.false c.is_begun.ensures c.in_ok-begin_solve.ensures.ok in
    let first : c.self.inside.stage ≡ Begun =
    subst (λ (s : SolverState). s.failed ≡ false → s.stage ≡ Begun) (sym c.self.view_is) c.requires.first c.if-self.false in
    c.in_ok-grow_to.ensures.rest.keeps c.begin_solve.new.proof c.self.inside.arena.clauses c.self.inside.database
    (rest_in c.self.inside.proof c.begin_solve.new.proof c.self.inside.watch c.self.inside.arena.clauses c.self.inside.database m.same
    (subst (λ s. IsLeftAt s c.self.inside.proof c.self.inside.watch c.self.inside.arena.clauses c.self.inside.database) first
    (c.self.invariant.whole.left c.if-self.false)))

pub end_by-requires-clause-bound : goal.end_by-requires-clause-bound
end_by-requires-clause-bound c = subst (λ n. n < 2 ^ 30) (sym c.in_ok-grow_to.ensures.vars) c.self.invariant.whole.ready.bound

pub end_by-requires-clause-range : goal.end_by-requires-clause-range
end_by-requires-clause-range c =
    let inside : SolverState = record { proof = c.self.inside.proof; vars = c.self.inside.vars; stage = c.self.inside.stage; failed = c.self.inside.failed } in
    let m = may_search inside c.args.assumptions.now c.is_begun.result c.begin_solve.new.proof c.self.invariant.whole.ready
    (subst (λ s. MaySolve s c.args.assumptions.now) (sym c.self.view_is) c.requires.stage) c.if-self.false c.is_begun.ensures c.in_ok-begin_solve.ensures.ok in
    ranges_as c.self.inside.proof c.begin_solve.new.proof (sym c.in_ok-grow_to.ensures.vars) m.stands (c.self.invariant.whole.ready.range c.if-self.false)

pub end_by-requires-clause-phase : goal.end_by-requires-clause-phase
end_by-requires-clause-phase c =
    let inside : SolverState = record { proof = c.self.inside.proof; vars = c.self.inside.vars; stage = c.self.inside.stage; failed = c.self.inside.failed } in
    let m = may_search inside c.args.assumptions.now c.is_begun.result c.begin_solve.new.proof c.self.invariant.whole.ready
    (subst (λ s. MaySolve s c.args.assumptions.now) (sym c.self.view_is) c.requires.stage) c.if-self.false c.is_begun.ensures c.in_ok-begin_solve.ensures.ok in
    m.phase

pub end_by-requires-clause-learnt : goal.end_by-requires-clause-learnt
end_by-requires-clause-learnt c =
    let b : ProofLog = c.begin_solve.new.proof in
    let d = subst (λ (s : SolverState). FailsBy s.proof.problem.clauses c.args.assumptions.now c.args.failed_assumption) (sym c.self.view_is) c.requires.failed_assumption in
    let same : c.self.inside.proof.problem.clauses ≡ b.problem.clauses =
    sym (ap (λ (x : ProofLog). x.problem.clauses) c.in_ok-begin_solve.ensures.ok ∙ begun_clauses c.is_begun.result c.self.inside.proof c.args.assumptions.now) in
    learnt_of_axioms b.problem b.history c.args.failed_assumption.lits c.args.failed_assumption.hints (subst (NoneRefused b.problem) c.log.ensures.lines c.log.ensures.right)
    (subst (λ cs. IsLoggedLearnt (axioms_from 1 cs) c.args.failed_assumption.lits c.args.failed_assumption.hints) same d.learnt)

pub end_by-requires-clause-ends : goal.end_by-requires-clause-ends
end_by-requires-clause-ends c =
    let inside : SolverState = record { proof = c.self.inside.proof; vars = c.self.inside.vars; stage = c.self.inside.stage; failed = c.self.inside.failed } in
    let m = may_search inside c.args.assumptions.now c.is_begun.result c.begin_solve.new.proof c.self.invariant.whole.ready
    (subst (λ s. MaySolve s c.args.assumptions.now) (sym c.self.view_is) c.requires.stage) c.if-self.false c.is_begun.ensures c.in_ok-begin_solve.ensures.ok in
    ap (λ a. denies a c.args.failed_assumption.lits) m.assumed_is ∙ c.requires.failed_assumption.ends

pub end_by-requires-clause-few : goal.end_by-requires-clause-few
end_by-requires-clause-few c = c.requires.failed_assumption.few

pub invariant_of-self-2 : goal.invariant_of-self-2
invariant_of-self-2 c =
    let inside : SolverState = record { proof = c.self.inside.proof; vars = c.self.inside.vars; stage = c.self.inside.stage; failed = c.self.inside.failed } in
    let may = subst (λ s. MaySolve s c.args.assumptions.now) (sym c.self.view_is) c.requires.stage in
    let m = may_search inside c.args.assumptions.now c.is_begun.result c.begin_solve.new.proof c.self.invariant.whole.ready may c.if-self.false
    c.is_begun.ensures c.in_ok-begin_solve.ensures.ok in
    let lemmas = some_and_last c.begin_solve.new.proof c.begin_solve.new.proof c.end_by.new.proof 0 c.in_ok-id.id (no_lemmas c.begin_solve.new.proof)
    c.in_ok-id.ensures.ok.refuted in
    let over = over_at_once c.begin_solve.new.proof c.end_by.new.proof c.grow_to.new.watch.trail.vars 1 c.in_ok-id.id c.grow_to.new.watch c.end_by.new.watch
    c.end_by.new.arena.clauses c.end_by.new.database (omega arith)
    (ranges_as c.self.inside.proof c.begin_solve.new.proof (sym c.in_ok-grow_to.ensures.vars) m.stands (c.self.invariant.whole.ready.range c.if-self.false))
    (subst (All (λ x. has_distinct_variables x ≡ true)) (sym m.stands) (c.self.invariant.whole.ready.distinct c.if-self.false))
    c.in_ok-id.ensures.ok refl in
    engine_solved inside c.begin_solve.new.proof c.end_by.new.proof c.is_begun.result c.args.assumptions.now (Ended c.in_ok-id.id) (Refuted c.in_ok-id.id)
    c.self.inside.watch c.end_by.new.watch c.self.inside.arena c.end_by.new.arena c.self.inside.database c.end_by.new.database
    c.self.inside.marks c.grow_to.new.marks c.self.inside.own c.self.inside.known c.self.invariant c.if-self.false c.in_ok-begin_solve.ensures.ok
    lemmas refl
    (whole_after_solve inside c.args.assumptions.now c.is_begun.result c.begin_solve.new.proof c.end_by.new.proof 1 c.grow_to.new.watch.trail.vars
    c.end_by.new.watch c.end_by.new.arena.clauses c.end_by.new.database c.grow_to.new.marks (Refuted c.in_ok-id.id) (Ended c.in_ok-id.id)
    c.self.invariant.whole.ready may c.if-self.false c.is_begun.ensures c.in_ok-begin_solve.ensures.ok lemmas over c.in_ok-grow_to.ensures.vars refl
    (subst (λ n. IsClear (n + 1) c.grow_to.new.marks) (sym c.in_ok-grow_to.ensures.vars) c.in_ok-grow_to.ensures.clear))

pub returns-clause-ok : goal.returns-clause-ok
returns-clause-ok c =
    let inside : SolverState = record { proof = c.self.inside.proof; vars = c.self.inside.vars; stage = c.self.inside.stage; failed = c.self.inside.failed } in
    let may = subst (λ s. MaySolve s c.args.assumptions.now) (sym c.self.view_is) c.requires.stage in
    let m = may_search inside c.args.assumptions.now c.is_begun.result c.begin_solve.new.proof c.self.invariant.whole.ready may c.if-self.false
    c.is_begun.ensures c.in_ok-begin_solve.ensures.ok in
    let lemmas = some_and_last c.begin_solve.new.proof c.begin_solve.new.proof c.end_by.new.proof 0 c.in_ok-id.id (no_lemmas c.begin_solve.new.proof)
    c.in_ok-id.ensures.ok.refuted in
    record {
      solved = λ limit one.
          solved_over inside c.args.self.now c.args.assumptions.now c.is_begun.result c.begin_solve.new.proof c.end_by.new.proof limit
          c.grow_to.new.watch.trail.vars c.end_by.new.watch c.end_by.new.arena.clauses c.end_by.new.database (Refuted c.in_ok-id.id) (Ended c.in_ok-id.id)
          c.self.view_is c.self.invariant.whole.ready may c.if-self.false c.is_begun.ensures c.in_ok-begin_solve.ensures.ok
          (over_at_once c.begin_solve.new.proof c.end_by.new.proof c.grow_to.new.watch.trail.vars limit c.in_ok-id.id c.grow_to.new.watch c.end_by.new.watch
          c.end_by.new.arena.clauses c.end_by.new.database one
          (ranges_as c.self.inside.proof c.begin_solve.new.proof (sym c.in_ok-grow_to.ensures.vars) m.stands (c.self.invariant.whole.ready.range c.if-self.false))
          (subst (All (λ x. has_distinct_variables x ≡ true)) (sym m.stands) (c.self.invariant.whole.ready.distinct c.if-self.false))
          c.in_ok-id.ensures.ok refl) c.in_ok-grow_to.ensures.vars lemmas refl;
    }

pub returns-clause-lines : goal.returns-clause-lines
returns-clause-lines c =
    follows_lemmas (is_begun c.args.self.now.stage) c.args.self.now.proof c.begin_solve.new.proof c.end_by.new.proof c.args.assumptions.now
    (subst (λ (s : SolverState). Follows (is_begun s.stage) s.proof c.begin_solve.new.proof c.args.assumptions.now) c.self.view_is
    (subst (λ b. Follows b c.self.inside.proof c.begin_solve.new.proof c.args.assumptions.now) c.is_begun.ensures c.in_ok-begin_solve.ensures.lines))
    (some_and_last c.begin_solve.new.proof c.begin_solve.new.proof c.end_by.new.proof 0 c.in_ok-id.id (no_lemmas c.begin_solve.new.proof)
    c.in_ok-id.ensures.ok.refuted)

pub returns-in_err-id-clause-lines : goal.returns-in_err-id-clause-lines
returns-in_err-id-clause-lines c =
    subst (λ b. Follows (is_begun c.args.self.now.stage) c.args.self.now.proof b c.args.assumptions.now) (sym c.in_err-id.ensures.err)
    (subst (λ (s : SolverState). Follows (is_begun s.stage) s.proof c.begin_solve.new.proof c.args.assumptions.now) c.self.view_is
    (subst (λ b. Follows b c.self.inside.proof c.begin_solve.new.proof c.args.assumptions.now) c.is_begun.ensures c.in_ok-begin_solve.ensures.lines))
