use Rattle.bs_net.specs.Netlist.{circuit}
use Rattle.bs_reach.proofs.SoughtLemmas.{some_reach}
use Rattle.bs_reach.proofs.answer.look_refuted.Goals as goal

pub returns : goal.returns
returns c =
    some_reach (circuit c.args.net.now) c.args.k c.args.b c.args.state.now c.reset.result.now c.args.encoding.now c.in_ok-found.found
    c.requires.encoded c.reset.ensures c.unrolled_clauses_are_executions.ensures.refuted c.unrolled_clauses_are_executions.ensures.solutions
    c.requires.width c.requires.other c.in_ok-found.ensures
