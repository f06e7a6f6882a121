use Rattle.std.proofs.Common.{subst, []}
use Rattle.bs_solve_lemmas.specs.Solver.{HasSolved}
use Rattle.bs_preimage.proofs.OrderLemmas.{if_ok}
use Rattle.bs_preimage.proofs.TurnLemmas.{found_turn, refuted_turn, spent_turn, follows_extends, extends_then}
use Rattle.bs_preimage.proofs.next_candidate.take_turn.Goals as goal

-- src/next_candidate.rt:25:1
pub returns-in-Found-clause-ok : goal.returns-in-Found-clause-ok
returns-in-Found-clause-ok c =
    if_ok c.list_one.result _ _
    (λ turn shown.
    found_turn _ _ _ c.solve.new.self _ _ _ turn c.requires.may
    (subst (HasSolved c.args.solver.now c.solve.new.self c.args.assumptions.now c.args.limit) c.in-Found.is c.in_ok-values.ensures.ok) shown)
    c.list_one.ensures.ok

-- src/next_candidate.rt:25:1
pub returns-in-Found-clause-lines : goal.returns-in-Found-clause-lines
returns-in-Found-clause-lines c = extends_then _ _ c.solve.new.self.proof _ _ [] (follows_extends _ _ _ _ c.in_ok-values.ensures.lines) c.list_one.ensures.lines

-- src/next_candidate.rt:25:1
pub returns-in-Refuted-clause-ok : goal.returns-in-Refuted-clause-ok
returns-in-Refuted-clause-ok c =
    refuted_turn c.args.encoding.now c.args.assumptions.now c.args.solver.now c.solve.new.self c.args.limit c.in-Refuted.id
    (subst (HasSolved c.args.solver.now c.solve.new.self c.args.assumptions.now c.args.limit) c.in-Refuted.is c.in_ok-values.ensures.ok)

-- src/next_candidate.rt:25:1
pub returns-in-Spent-clause-ok : goal.returns-in-Spent-clause-ok
returns-in-Spent-clause-ok c =
    spent_turn c.args.encoding.now c.args.assumptions.now c.args.solver.now c.solve.new.self c.args.limit
    (subst (HasSolved c.args.solver.now c.solve.new.self c.args.assumptions.now c.args.limit) c.in-Spent.is c.in_ok-values.ensures.ok)
