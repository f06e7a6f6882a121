use Rattle.bs_chip.proofs.ReplayLemmas.{played_more}
use Rattle.bs_chip.proofs.run_simulator.Player.step.Goals as goal

pub returns : goal.returns
returns c =
    played_more c.args.self.now c.self.inside.net.now c.self.inside.runs.now c.self.inside.sim.state c.step.new.self.state c.fill.new.into c.args.run
    c.args.cycle
    c.self.view_is c.requires.state (rw c.self.invariant.0 at c.step.ensures.state) c.fill.ensures.value
