use Rattle.std.proofs.Common.{◌≡◌, ◌-◌, ◌∷◌, ◌++◌, [], ap, ◌∙◌, sym, subst, refl, arith}
use Rattle.std.specs.Prelude.{All}
use Rattle.bs_clause.specs.Literal.{negation}
use Rattle.bs_clause.specs.Range.{HasVariables}
use Rattle.bs_solve_lemmas.specs.ProofLog.{standing, without}
use Rattle.bs_solve_lemmas.specs.Solver.{SolverState, leaving, retired}
use Rattle.bs_solve_lemmas.proofs.Solving.{step_facts, ends_step, activation_is_new}
use Rattle.bs_solve_lemmas.proofs.StepEnds.{ready_after_end}
use Rattle.bs_solve.specs.Database.{entries}
use Rattle.bs_solve.specs.Dropping.{without_ids, AreKnownIn}
use Rattle.bs_solve.specs.Ending.{unit_of}
use Rattle.bs_solve.proofs.Startings.{watch_vars, rested, step_solved, activation_range}
use Rattle.bs_solve.proofs.Endings.{marked_unit}
use Rattle.bs_solve.proofs.Engines.{noted_leave, unit_range, engine_ended, activation_is_free}
use Rattle.bs_solve.proofs.solver.Solver.end_step.Goals as goal

pub new-activation-requires : goal.new-activation-requires
new-activation-requires c =
    let inside : SolverState = record { proof = c.self.inside.proof; vars = c.self.inside.vars; stage = c.self.inside.stage; failed = c.self.inside.failed } in
    let facts = step_facts inside _ c.self.view_is c.self.invariant.whole.ready c.if-self.false c.requires.stage in
    let new = activation_is_new c.self.inside.proof c.self.inside.vars facts.0 in
    (omega (arith, new), c.self.invariant.whole.ready.bound)

pub finish-requires : goal.finish-requires
finish-requires c =
    let inside : SolverState = record { proof = c.self.inside.proof; vars = c.self.inside.vars; stage = c.self.inside.stage; failed = c.self.inside.failed } in
    ends_step inside _ c.self.view_is c.self.invariant.whole.ready c.if-self.false c.args.end c.requires.end

pub log_end-requires-clause-leaving : goal.log_end-requires-clause-leaving
log_end-requires-clause-leaving c =
    let inside : SolverState = record { proof = c.self.inside.proof; vars = c.self.inside.vars; stage = c.self.inside.stage; failed = c.self.inside.failed } in
    let facts = step_facts inside _ c.self.view_is c.self.invariant.whole.ready c.if-self.false c.requires.stage in
    let ids : c.in_ok-leaving.leaving.ids ≡ leaving c.finish.new.proof =
    noted_leave c.self.inside.proof c.finish.new.proof (retired c.finish.new.proof) c.args.end c.self.inside.vars c.self.inside.own
    (c.self.inside.vars - c.self.inside.own) c.new-activation.result c.in_ok-leaving.leaving.ids c.in_ok-finish.ensures.ok refl
    c.holds_end.ensures facts.0 (c.self.invariant.own_is c.if-self.false) refl c.in_ok-leaving.ensures.ids in
    c.slice.ensures ∙ ids

pub prepare-requires-clause-free : goal.prepare-requires-clause-free
prepare-requires-clause-free c =
    let inside : SolverState = record { proof = c.self.inside.proof; vars = c.self.inside.vars; stage = c.self.inside.stage; failed = c.self.inside.failed } in
    let facts = step_facts inside _ c.self.view_is c.self.invariant.whole.ready c.if-self.false c.requires.stage in
    let all = watch_vars inside c.self.inside.watch c.self.inside.arena.clauses c.self.inside.database c.self.inside.marks c.self.invariant.whole
    c.if-self.false (step_solved inside _ c.self.view_is c.if-self.false c.requires.stage) in
    activation_is_free c.self.inside.proof c.self.inside.vars c.rest.new.watch c.self.inside.arena.clauses c.self.inside.database (negation c.new-activation.result)
    (rested inside c.self.inside.watch c.rest.new.watch c.self.inside.arena.clauses c.self.inside.database c.self.inside.marks c.self.invariant.whole
    c.if-self.false c.rest.ensures) facts.0.vars_is (c.rest.ensures.vars ∙ all) (ap negation c.new-activation.ensures)

pub settle-self-inside-requires-clause-some : goal.settle-self-inside-requires-clause-some
settle-self-inside-requires-clause-some c =
    let inside : SolverState = record { proof = c.self.inside.proof; vars = c.self.inside.vars; stage = c.self.inside.stage; failed = c.self.inside.failed } in
    let facts = step_facts inside _ c.self.view_is c.self.invariant.whole.ready c.if-self.false c.requires.stage in
    let new = activation_is_new c.self.inside.proof c.self.inside.vars facts.0 in
    let all = watch_vars inside c.self.inside.watch c.self.inside.arena.clauses c.self.inside.database c.self.inside.marks c.self.invariant.whole
    c.if-self.false (step_solved inside _ c.self.view_is c.if-self.false c.requires.stage) in
    let vars : c.self.inside.vars ≡ c.prepare.new.watch.trail.vars =
    sym (c.in_ok-leaving.ensures.vars ∙ c.rest.ensures.vars ∙ all) in (
      entries c.self.inside.proof ++ unit_of c.self.inside.proof c.new-activation.result ∷ [],
      c.in_ok-leaving.ensures.holds_entries,
      subst (λ xs. AreKnownIn c.self.inside.own (c.self.inside.vars - c.self.inside.own) xs c.self.inside.known.rows c.self.inside.known.long)
          (sym (marked_unit (entries c.self.inside.proof) c.self.inside.proof c.new-activation.result)) (c.self.invariant.knows c.if-self.false),
      unit_range c.self.inside.proof c.prepare.new.watch.trail.vars c.new-activation.result
          (subst (λ n. All (HasVariables n) (standing c.self.inside.proof)) vars (c.self.invariant.whole.ready.range c.if-self.false))
          (activation_range c.prepare.new.watch.trail.vars c.self.inside.vars (negation c.new-activation.result) vars (ap negation c.new-activation.ensures)
          (omega (arith, new))),
    )

pub invariant_of-self-2 : goal.invariant_of-self-2
invariant_of-self-2 c =
    let inside : SolverState = record { proof = c.self.inside.proof; vars = c.self.inside.vars; stage = c.self.inside.stage; failed = c.self.inside.failed } in
    let facts = step_facts inside _ c.self.view_is c.self.invariant.whole.ready c.if-self.false c.requires.stage in
    let ids : c.in_ok-leaving.leaving.ids ≡ leaving c.finish.new.proof =
    noted_leave c.self.inside.proof c.finish.new.proof (retired c.finish.new.proof) c.args.end c.self.inside.vars c.self.inside.own
    (c.self.inside.vars - c.self.inside.own) c.new-activation.result c.in_ok-leaving.leaving.ids c.in_ok-finish.ensures.ok refl
    c.holds_end.ensures facts.0 (c.self.invariant.own_is c.if-self.false) refl c.in_ok-leaving.ensures.ids in
    let is_new : c.log_end.new.self ≡ without (retired c.finish.new.proof) c.in_ok-leaving.leaving.ids =
    c.in_ok-log_end.ensures.lines ∙ ap (without (retired c.finish.new.proof)) (sym ids) in
    engine_ended inside c.finish.new.proof (retired c.finish.new.proof) c.log_end.new.self c.args.end c.new-activation.result c.in_ok-leaving.leaving.ids
    (c.self.inside.vars - c.self.inside.own) c.self.inside.watch c.rest.new.watch c.prepare.new.watch c.settle-self-inside.new.watch c.self.inside.arena
    c.prepare.new.arena.clauses c.settle-self-inside.new.arena c.self.inside.database c.prepare.new.database c.settle-self-inside.new.database
    c.self.inside.marks c.self.inside.own c.self.inside.known c.settle-self-inside.result c.self.invariant c.if-self.false facts.0
    (step_solved inside _ c.self.view_is c.if-self.false c.requires.stage) c.rest.ensures.vars
    (rested inside c.self.inside.watch c.rest.new.watch c.self.inside.arena.clauses c.self.inside.database c.self.inside.marks c.self.invariant.whole
    c.if-self.false c.rest.ensures) c.in_ok-finish.ensures.ok refl is_new c.holds_end.ensures
    (c.in_ok-log_end.ensures.stands ∙ ap (λ xs. without_ids xs (entries (retired c.finish.new.proof))) c.slice.ensures) refl
    c.in_ok-leaving.ensures.holds_entries c.in_ok-leaving.ensures.vars c.in_ok-leaving.ensures.ground c.in_ok-leaving.ensures.levels
    c.settle-self-inside.ensures.settled
    c.settle-self-inside.ensures.words
    (ready_after_end inside c.finish.new.proof (retired c.finish.new.proof) c.log_end.new.self c.args.end c.new-activation.result c.in_ok-leaving.leaving.ids
    c.self.invariant.whole.ready c.if-self.false facts.0 facts.1 c.in_ok-finish.ensures.ok c.new-activation.ensures refl
    c.holds_end.ensures c.in_ok-log_end.ensures.order ids is_new)

pub prepare-requires-clause-rest : goal.prepare-requires-clause-rest
prepare-requires-clause-rest c =
    let inside : SolverState = record { proof = c.self.inside.proof; vars = c.self.inside.vars; stage = c.self.inside.stage; failed = c.self.inside.failed } in
    rested inside c.self.inside.watch c.rest.new.watch c.self.inside.arena.clauses c.self.inside.database c.self.inside.marks c.self.invariant.whole
    c.if-self.false c.rest.ensures

pub prepare-requires-clause-own : goal.prepare-requires-clause-own
prepare-requires-clause-own c = c.self.invariant.own_is c.if-self.false

pub prepare-requires-clause-known : goal.prepare-requires-clause-known
prepare-requires-clause-known c = c.self.invariant.knows c.if-self.false

pub settle-self-inside-requires-clause-serves : goal.settle-self-inside-requires-clause-serves
settle-self-inside-requires-clause-serves c = c.in_ok-leaving.ensures.serves

pub settle-self-inside-requires-clause-room : goal.settle-self-inside-requires-clause-room
settle-self-inside-requires-clause-room c = c.in_ok-leaving.ensures.room

pub settle-self-inside-requires-clause-ascends : goal.settle-self-inside-requires-clause-ascends
settle-self-inside-requires-clause-ascends c = c.in_ok-leaving.ensures.ascends

pub settle-self-inside-requires-clause-gone : goal.settle-self-inside-requires-clause-gone
settle-self-inside-requires-clause-gone c = c.in_ok-leaving.ensures.gone

pub settle-self-inside-requires-clause-staying : goal.settle-self-inside-requires-clause-staying
settle-self-inside-requires-clause-staying c = c.in_ok-leaving.ensures.staying
