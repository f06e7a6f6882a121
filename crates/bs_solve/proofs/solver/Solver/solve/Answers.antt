use Rattle.std.proofs.Common.{◌≡◌, ◌<◌, ◌+◌, ◌^◌, ◌∙◌, true, ap, sym, subst, arith}
use Rattle.std.specs.Prelude.{All}
use Rattle.bs_clause.specs.Range.{HasVariables}
use Rattle.bs_log.specs.Refusal.{has_distinct_variables}
use Rattle.bs_solve_lemmas.specs.Stages.{is_begun}
use Rattle.bs_solve_lemmas.specs.Solver.{SolverState, MaySolve, Follows}
use Rattle.bs_solve_lemmas.proofs.Solving.{follows_lemmas}
use Rattle.bs_solve_lemmas.specs.Marks.{IsClear}
use Rattle.bs_solve.proofs.Engines.{engine_solved, begun_own}
use Rattle.bs_solve.proofs.Startings.{few_new, may_search, ranges_as, kept_for_search, whole_after_solve, solved_over}
use Rattle.bs_solve.proofs.solver.Solver.solve.Goals as goal

pub grow_to-requires-clause-low : goal.grow_to-requires-clause-low
grow_to-requires-clause-low c = let v = c.self.invariant.whole.vars c.if-self.false in omega (arith, v)

pub grow_to-requires-clause-high : goal.grow_to-requires-clause-high
grow_to-requires-clause-high c =
    let v = c.self.invariant.whole.vars c.if-self.false in let few = few_new c.self.inside.stage in omega (arith, v, few)

pub grow_to-requires-clause-clear : goal.grow_to-requires-clause-clear
grow_to-requires-clause-clear c = c.self.invariant.whole.clear c.if-self.false

pub search-requires-clause-kept : goal.search-requires-clause-kept
search-requires-clause-kept c =
    let inside : SolverState = record { proof = c.self.inside.proof; vars = c.self.inside.vars; stage = c.self.inside.stage; failed = c.self.inside.failed } in
    let may = subst (λ s. MaySolve s c.args.assumptions.now) (sym c.self.view_is) c.requires.stage in
    let m = may_search inside c.args.assumptions.now c.is_begun.result c.begin_solve.new.proof c.self.invariant.whole.ready may c.if-self.false
    c.is_begun.ensures c.in_ok-begin_solve.ensures.ok in
    kept_for_search inside c.args.assumptions.now c.begin_solve.new.proof c.self.inside.watch c.grow_to.new.watch c.self.inside.arena.clauses
    c.self.inside.database c.self.inside.marks c.self.invariant.whole c.if-self.false may m.same m.assumed_is c.in_ok-grow_to.ensures.rest

pub search-requires-clause-clear : goal.search-requires-clause-clear
search-requires-clause-clear c =
    subst (λ n. IsClear (n + 1) c.grow_to.new.marks) (sym c.in_ok-grow_to.ensures.vars) c.in_ok-grow_to.ensures.clear

pub search-requires-clause-bound : goal.search-requires-clause-bound
search-requires-clause-bound c = subst (λ n. n < 2 ^ 30) (sym c.in_ok-grow_to.ensures.vars) c.self.invariant.whole.ready.bound

pub search-requires-clause-range : goal.search-requires-clause-range
search-requires-clause-range c =
    let inside : SolverState = record { proof = c.self.inside.proof; vars = c.self.inside.vars; stage = c.self.inside.stage; failed = c.self.inside.failed } in
    let m = may_search inside c.args.assumptions.now c.is_begun.result c.begin_solve.new.proof c.self.invariant.whole.ready
    (subst (λ s. MaySolve s c.args.assumptions.now) (sym c.self.view_is) c.requires.stage) c.if-self.false c.is_begun.ensures c.in_ok-begin_solve.ensures.ok in
    ranges_as c.self.inside.proof c.begin_solve.new.proof (sym c.in_ok-grow_to.ensures.vars) m.stands (c.self.invariant.whole.ready.range c.if-self.false)

pub search-requires-clause-distinct : goal.search-requires-clause-distinct
search-requires-clause-distinct c =
    let inside : SolverState = record { proof = c.self.inside.proof; vars = c.self.inside.vars; stage = c.self.inside.stage; failed = c.self.inside.failed } in
    let m = may_search inside c.args.assumptions.now c.is_begun.result c.begin_solve.new.proof c.self.invariant.whole.ready
    (subst (λ s. MaySolve s c.args.assumptions.now) (sym c.self.view_is) c.requires.stage) c.if-self.false c.is_begun.ensures c.in_ok-begin_solve.ensures.ok in
    subst (All (λ x. has_distinct_variables x ≡ true)) (sym m.stands) (c.self.invariant.whole.ready.distinct c.if-self.false)

pub search-requires-clause-assumed : goal.search-requires-clause-assumed
search-requires-clause-assumed c =
    let inside : SolverState = record { proof = c.self.inside.proof; vars = c.self.inside.vars; stage = c.self.inside.stage; failed = c.self.inside.failed } in
    let m = may_search inside c.args.assumptions.now c.is_begun.result c.begin_solve.new.proof c.self.invariant.whole.ready
    (subst (λ s. MaySolve s c.args.assumptions.now) (sym c.self.view_is) c.requires.stage) c.if-self.false c.is_begun.ensures c.in_ok-begin_solve.ensures.ok in
    m.assumed_is ∙ sym c.slice.ensures

pub search-requires-clause-assumed_range : goal.search-requires-clause-assumed_range
search-requires-clause-assumed_range c =
    subst (HasVariables c.grow_to.new.watch.trail.vars) (sym c.slice.ensures)
    (subst (λ n. HasVariables n c.args.assumptions.now)
    (ap (λ (s : SolverState). s.vars) (sym c.self.view_is) ∙ sym c.in_ok-grow_to.ensures.vars) c.requires.range)

pub search-requires-clause-phase : goal.search-requires-clause-phase
search-requires-clause-phase c =
    let inside : SolverState = record { proof = c.self.inside.proof; vars = c.self.inside.vars; stage = c.self.inside.stage; failed = c.self.inside.failed } in
    let m = may_search inside c.args.assumptions.now c.is_begun.result c.begin_solve.new.proof c.self.invariant.whole.ready
    (subst (λ s. MaySolve s c.args.assumptions.now) (sym c.self.view_is) c.requires.stage) c.if-self.false c.is_begun.ensures c.in_ok-begin_solve.ensures.ok in
    m.phase

pub invariant_of-self-2 : goal.invariant_of-self-2
invariant_of-self-2 c =
    let inside : SolverState = record { proof = c.self.inside.proof; vars = c.self.inside.vars; stage = c.self.inside.stage; failed = c.self.inside.failed } in
    engine_solved inside c.begin_solve.new.proof c.search.new.proof c.is_begun.result c.args.assumptions.now c.stage_after-self-inside.result
    c.in_ok-answer.answer c.self.inside.watch c.search.new.watch c.self.inside.arena c.search.new.arena c.self.inside.database c.search.new.database
    c.self.inside.marks c.search.new.marks c.self.inside.own c.self.inside.known c.self.invariant c.if-self.false c.in_ok-begin_solve.ensures.ok
    c.in_ok-answer.ensures.lemmas c.stage_after-self-inside.ensures
    (whole_after_solve inside c.args.assumptions.now c.is_begun.result c.begin_solve.new.proof c.search.new.proof c.args.limit c.grow_to.new.watch.trail.vars
    c.search.new.watch c.search.new.arena.clauses c.search.new.database c.search.new.marks c.in_ok-answer.answer c.stage_after-self-inside.result
    c.self.invariant.whole.ready
    (subst (λ s. MaySolve s c.args.assumptions.now) (sym c.self.view_is) c.requires.stage) c.if-self.false c.is_begun.ensures c.in_ok-begin_solve.ensures.ok
    c.in_ok-answer.ensures.lemmas c.in_ok-answer.ensures.over c.in_ok-grow_to.ensures.vars c.stage_after-self-inside.ensures c.in_ok-answer.ensures.clear)

pub returns-clause-ok : goal.returns-clause-ok
returns-clause-ok c =
    let inside : SolverState = record { proof = c.self.inside.proof; vars = c.self.inside.vars; stage = c.self.inside.stage; failed = c.self.inside.failed } in
    solved_over inside c.args.self.now c.args.assumptions.now c.is_begun.result c.begin_solve.new.proof c.search.new.proof c.args.limit
    c.grow_to.new.watch.trail.vars
    c.search.new.watch c.search.new.arena.clauses c.search.new.database c.in_ok-answer.answer c.stage_after-self-inside.result c.self.view_is
    c.self.invariant.whole.ready (subst (λ s. MaySolve s c.args.assumptions.now) (sym c.self.view_is) c.requires.stage) c.if-self.false c.is_begun.ensures
    c.in_ok-begin_solve.ensures.ok c.in_ok-answer.ensures.over c.in_ok-grow_to.ensures.vars c.in_ok-answer.ensures.lemmas c.stage_after-self-inside.ensures

pub returns-in_err-answer-clause-lines : goal.returns-in_err-answer-clause-lines
returns-in_err-answer-clause-lines c =
    follows_lemmas (is_begun c.args.self.now.stage) c.args.self.now.proof c.begin_solve.new.proof c.search.new.proof c.args.assumptions.now
    (subst (λ (s : SolverState). Follows (is_begun s.stage) s.proof c.begin_solve.new.proof c.args.assumptions.now) c.self.view_is
    (subst (λ b. Follows b c.self.inside.proof c.begin_solve.new.proof c.args.assumptions.now) c.is_begun.ensures c.in_ok-begin_solve.ensures.lines))
    c.in_err-answer.ensures.lemmas

pub returns-clause-lines : goal.returns-clause-lines
returns-clause-lines c =
    follows_lemmas (is_begun c.args.self.now.stage) c.args.self.now.proof c.begin_solve.new.proof c.search.new.proof c.args.assumptions.now
    (subst (λ (s : SolverState). Follows (is_begun s.stage) s.proof c.begin_solve.new.proof c.args.assumptions.now) c.self.view_is
    (subst (λ b. Follows b c.self.inside.proof c.begin_solve.new.proof c.args.assumptions.now) c.is_begun.ensures c.in_ok-begin_solve.ensures.lines))
    c.in_ok-answer.ensures.lemmas

pub search-requires-clause-own : goal.search-requires-clause-own
search-requires-clause-own c =
    begun_own c.self.inside.proof c.begin_solve.new.proof c.is_begun.result c.args.assumptions.now c.in_ok-begin_solve.ensures.ok
    (c.self.invariant.own_clauses c.if-self.false)
