use Rattle.std.proofs.Common.{◌≡◌, ℕ, false, Option, subst, sym}
use Rattle.std.specs.Prelude.{IfSome, option_map}
use Rattle.bs_solve_lemmas.specs.declared.stage.Stage.TheVariants.{Ended}
use Rattle.bs_solve_lemmas.specs.Solver.{HasEnded}
use Rattle.bs_preimage.proofs.ProbeLemmas.{may_probe, turned_solved, turned_end, once_probed}
use Rattle.bs_preimage.proofs.probe.probe_once.Goals as goal

pub probe_turn-requires-clause-may : goal.probe_turn-requires-clause-may
probe_turn-requires-clause-may c =
    may_probe c.args.encoding.now c.args.solver.now c.begin_step.new.self c.args.asked.now.present.now c.args.asked.now.stored.now (option_map
    (λ bits. bits.now) c.args.asked.now.older) c.args.asked.now.state.now c.in_ok-activation.activation
    c.requires.readable c.requires.vars c.requires.clauses c.requires.rest c.requires.distinct c.in_ok-activation.ensures.ok c.in_ok-activation.ensures.activation

pub end_step-requires-clause-stage : goal.end_step-requires-clause-stage
end_step-requires-clause-stage c = λ _. turned_solved _ _ _ _ c.probe_turn.new.solver c.in_ok-end.end c.in_ok-end.ensures.ok

pub end_step-requires-clause-end : goal.end_step-requires-clause-end
end_step-requires-clause-end c =
    subst (λ (o : Option ℕ). IfSome o (λ id. c.probe_turn.new.solver.failed ≡ false → c.probe_turn.new.solver.stage ≡ Ended id)) (sym c.ending.ensures)
    (turned_end _ _ _ _ c.probe_turn.new.solver c.in_ok-end.end c.in_ok-end.ensures.ok)

pub returns : goal.returns
returns c =
    record {
      ok =
          once_probed c.args.encoding.now c.args.solver.now c.begin_step.new.self c.probe_turn.new.solver c.end_step.new.self c.args.asked.now.present.now
          c.args.asked.now.stored.now (option_map (λ bits. bits.now) c.args.asked.now.older) c.args.asked.now.state.now c.in_ok-activation.activation
          c.args.asked.now.b c.in_ok-end.end c.requires.rest c.in_ok-activation.ensures.ok c.in_ok-activation.ensures.activation c.in_ok-end.ensures.ok
          (subst (HasEnded c.probe_turn.new.solver c.end_step.new.self) c.ending.ensures c.in_ok-end_step.ensures.ok);
    }
