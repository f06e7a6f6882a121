use Rattle.bs_net.specs.Netlist.{circuit}
use Rattle.bs_preimage.proofs.ProbeLemmas.{made_ready}
use Rattle.bs_preimage.proofs.probe.engine_over.Goals as goal

pub returns : goal.returns
returns c =
    made_ready (circuit c.args.net.now) c.args.choice.now c.args.encoding c.in_ok-solver.solver c.requires.width c.requires.encoding
    c.in_ok-solver.ensures
