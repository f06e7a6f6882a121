use Rattle.std.proofs.Common.{◌+◌, sym, subst, arith}
use Rattle.bs_solve_lemmas.specs.Solver.{SolverState, MaySolve}
use Rattle.bs_solve.proofs.Engines.{engine_opened, has_opened}
use Rattle.bs_solve.proofs.Startings.{few_new}
use Rattle.bs_solve.proofs.solver.Solver.solve_unsearched.Goals as goal

pub grow_to-requires-clause-low : goal.grow_to-requires-clause-low
grow_to-requires-clause-low c = let v = c.self.invariant.whole.vars c.if-self.false in omega (arith, v)

pub grow_to-requires-clause-high : goal.grow_to-requires-clause-high
grow_to-requires-clause-high c =
    let v = c.self.invariant.whole.vars c.if-self.false in let few = few_new c.self.inside.stage in omega (arith, v, few)

pub grow_to-requires-clause-clear : goal.grow_to-requires-clause-clear
grow_to-requires-clause-clear c = c.self.invariant.whole.clear c.if-self.false

pub invariant_of-self-2 : goal.invariant_of-self-2
invariant_of-self-2 c =
    let inside : SolverState = record { proof = c.self.inside.proof; vars = c.self.inside.vars; stage = c.self.inside.stage; failed = c.self.inside.failed } in
    engine_opened inside c.begin_solve.new.proof c.is_begun.result c.args.assumptions.now c.self.inside.watch c.grow_to.new.watch
    c.self.inside.arena c.self.inside.database c.self.inside.marks c.grow_to.new.marks c.self.inside.own c.self.inside.known c.self.invariant
    (subst (λ s. MaySolve s c.args.assumptions.now) (sym c.self.view_is) c.requires.stage) c.if-self.false c.is_begun.ensures
    c.in_ok-begin_solve.ensures.ok c.in_ok-grow_to.ensures.vars c.in_ok-grow_to.ensures.rest c.in_ok-grow_to.ensures.clear

pub returns-clause-ok : goal.returns-clause-ok
returns-clause-ok c =
    let inside : SolverState = record { proof = c.self.inside.proof; vars = c.self.inside.vars; stage = c.self.inside.stage; failed = c.self.inside.failed } in
    has_opened inside c.args.self.now c.args.assumptions.now c.is_begun.result c.begin_solve.new.proof c.self.view_is c.self.invariant.whole.ready
    (subst (λ s. MaySolve s c.args.assumptions.now) (sym c.self.view_is) c.requires.stage) c.if-self.false c.is_begun.ensures
    c.in_ok-begin_solve.ensures.ok
