use Rattle.std.proofs.Common.{refl}
use Rattle.bs_net.specs.Netlist.{circuit}
use Rattle.bs_net.specs.Circuit.{reset_state}
use Rattle.bs_reach.proofs.ShownLemmas.{shown_is}
use Rattle.bs_reach.proofs.shown.as_shown.Goals as goal

pub returns : goal.returns
returns c =
    shown_is (circuit c.args.net.now) c.args.k c.args.b c.args.c c.args._state.now (reset_state (circuit c.args.net.now)) c.args._encoding.now
    c.args.execution.states c.args.execution.inputs c.args.log c.with_execution.result c.requires.encoded refl
    c.unrolled_clauses_are_executions.ensures.refuted c.requires.other c.requires.within c.requires.log c.requires.run c.with_execution.ensures
