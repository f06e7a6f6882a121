use Rattle.std.proofs.Common.{◌≡◌, ◌+◌, ◌<◌, ◌^◌, false, sym, subst}
use Rattle.bs_solve_lemmas.specs.declared.stage.Stage.TheVariants.{Idle, Begun}
use Rattle.bs_solve_lemmas.specs.Solver.{SolverState}
use Rattle.bs_solve.specs.Starting.{IsEngine}
use Rattle.bs_solve.proofs.Engines.{ready_begun, engine_begun}
use Rattle.bs_solve.proofs.solver.Solver.begin_step.Goals as goal

pub invariant_of-self : goal.invariant_of-self
invariant_of-self c =
    let inside : SolverState = record { proof = c.self.inside.proof; vars = c.self.inside.vars; stage = c.self.inside.stage; failed = c.self.inside.failed } in
    let idle : c.self.inside.stage ≡ Idle =
    subst (λ (s : SolverState). s.failed ≡ false → s.stage ≡ Idle) (sym c.self.view_is) c.requires.stage c.if-failed.false in
    let room : c.self.inside.vars + 1 < 2 ^ 30 = subst (λ (s : SolverState). s.vars + 1 < 2 ^ 30) (sym c.self.view_is) c.requires.room in
    subst (λ b. IsEngine (record { proof = c.self.inside.proof; vars = c.self.inside.vars + 1; stage = Begun; failed = b }) c.self.inside.watch
    c.self.inside.arena c.self.inside.database c.self.inside.marks c.self.inside.own c.self.inside.known) (sym c.if-failed.false)
    (engine_begun inside c.self.inside.watch c.self.inside.arena c.self.inside.database c.self.inside.marks c.self.inside.own c.self.inside.known
    c.self.invariant c.if-failed.false idle (ready_begun inside c.self.invariant.whole.ready c.if-failed.false idle room))
