use Rattle.std.specs.Prelude.{IfOk}
use Rattle.std.proofs.Common.{sym, subst}
use Rattle.bs_preimage.specs.Turn.{GoesTo}
use Rattle.bs_preimage.proofs.OrderLemmas.{if_ok}
use Rattle.bs_preimage.proofs.TurnLemmas.{none_is_known}
use Rattle.bs_preimage.proofs.next_candidate.last_turn.Goals as goal

pub returns-in-None-clause-ok : goal.returns-in-None-clause-ok
returns-in-None-clause-ok c =
    subst (λ known. IfOk c.take_turn.result (GoesTo c.args.encoding.now c.args.assumptions.now c.args.limit c.args.found.now known
    c.args.solver.now c.take_turn.new.solver)) (sym c.in-None.is)
    (if_ok c.take_turn.result _ _ (λ turn h. none_is_known _ _ _ _ _ _ turn h) c.take_turn.ensures.ok)
