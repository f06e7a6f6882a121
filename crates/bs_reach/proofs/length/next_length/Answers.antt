use Rattle.std.proofs.Common.{◌+◌, ap, sym, subst}
use Rattle.bs_log.specs.History.{Problem}
use Rattle.bs_reach.specs.FailedAssumptions.{AreFailedAssumptions}
use Rattle.bs_reach.proofs.FailedAssumptionLemmas.{failed_assumptions_head, failed_assumptions_none}
use Rattle.bs_reach.proofs.length.next_length.Goals as goal

pub deny_length-requires-clause-failed_assumption : goal.deny_length-requires-clause-failed_assumption
deny_length-requires-clause-failed_assumption c =
    (failed_assumptions_head c.args.solver.now.proof.problem.clauses c.args.encoding.now c.args.k c.args.state.now c.args.c c.args.failed_assumptions.now.items
    c.pop_front.new.self.items c.in-Some.failed_assumption c.pop_front.result c.pop_front.ensures.items c.in-Some.is c.requires.failed_assumptions).0

pub returns-in_ok-deny_length-in-Some-clause-left : goal.returns-in_ok-deny_length-in-Some-clause-left
returns-in_ok-deny_length-in-Some-clause-left c =
    subst (λ cs. AreFailedAssumptions cs c.args.encoding.now c.args.k c.args.state.now (c.args.c + 1) c.pop_front.new.self.items)
    (sym (ap (λ (q : Problem). q.clauses) c.in_ok-deny_length-in-Some.ensures.tried.problem))
    (failed_assumptions_head c.args.solver.now.proof.problem.clauses c.args.encoding.now c.args.k c.args.state.now c.args.c c.args.failed_assumptions.now.items
    c.pop_front.new.self.items c.in-Some.failed_assumption c.pop_front.result c.pop_front.ensures.items c.in-Some.is c.requires.failed_assumptions).1

pub returns-in_ok-trial-in-None-clause-left : goal.returns-in_ok-trial-in-None-clause-left
returns-in_ok-trial-in-None-clause-left c =
    failed_assumptions_none c.try_length.new.solver.proof.problem.clauses c.args.encoding.now c.args.k c.args.state.now (c.args.c + 1) c.args.failed_assumptions.now.items
    c.pop_front.new.self.items c.pop_front.result c.pop_front.ensures.items c.pop_front.ensures.rest c.in-None.is
