use Rattle.bs_net.specs.Netlist.{circuit}
use Rattle.bs_preimage.proofs.ProbeLemmas.{made_ready}
use Rattle.bs_preimage.proofs.probe.renew.Goals as goal

pub returns-clause-ready : goal.returns-clause-ready
returns-clause-ready c =
    made_ready (circuit c.args.net.now) c.args.choice.now c.args.encoding.now _ c.requires.ready.about.width
    c.requires.ready.about.encoding c.in_ok-solver.ensures
