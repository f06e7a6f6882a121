use Rattle.bs_net.specs.Netlist.{circuit}
use Rattle.bs_stim.specs.Runs.{inputs_of}
use Rattle.bs_chip.proofs.TrackLemmas.{starts_with}
use Rattle.bs_chip.proofs.kept_planes.at_reset.Goals as goal

pub returns-in-Ok-clause-track : goal.returns-in-Ok-clause-track
returns-in-Ok-clause-track c =
    starts_with c.in_ok-pass.pass (circuit c.args.net.now) (inputs_of c.args.runs.now) c.planes.result.now c.in-Ok.track
    c.in_ok-pass.ensures c.planes.ensures c.in-Ok.ensures
