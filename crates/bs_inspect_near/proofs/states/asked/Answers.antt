use Rattle.bs_net.specs.Netlist.{circuit}
use Rattle.bs_inspect_near.proofs.StateLemmas.{asked_wide}
use Rattle.bs_inspect_near.proofs.states.asked.Goals as goal

pub returns-clause-wide : goal.returns-clause-wide
returns-clause-wide c =
    asked_wide (circuit c.args.net.now) c.reset.result.now c.in_ok-known.known c.args.seen.now c.in_ok-states.states c.requires c.reset.ensures
    c.in_ok-states.ensures
