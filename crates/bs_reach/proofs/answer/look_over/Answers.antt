use Rattle.std.proofs.Common.{subst, sym}
use Rattle.bs_net.specs.Netlist.{circuit}
use Rattle.bs_reach.specs.Reach.{IsReach}
use Rattle.bs_reach.proofs.ReachLemmas.{look_is}
use Rattle.bs_reach.proofs.answer.look_over.Goals as goal

pub returns : goal.returns
returns c =
    let h = c.in_ok-reach.ensures in
    subst (IsReach (circuit c.args.net.now) c.args.state.now c.args.k c.args.b) (sym h.is)
    (look_is (circuit c.args.net.now) c.args.k c.args.b c.args.state.now c.reset.result.now c.args.encoding.now h.start h.solver
    c.in_ok-reach.reach.log h.end h.told
    c.requires.encoded c.reset.ensures c.unrolled_clauses_are_executions.ensures.refuted c.unrolled_clauses_are_executions.ensures.solutions
    c.requires.width c.requires.other h.fresh h.ended h.tells h.lines h.lean h.texts h.accepted)
