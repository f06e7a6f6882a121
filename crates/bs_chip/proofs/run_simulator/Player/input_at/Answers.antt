use Rattle.bs_chip.proofs.ReplayLemmas.{input_seen}
use Rattle.bs_chip.proofs.run_simulator.Player.input_at.Goals as goal

pub returns : goal.returns
returns c =
    input_seen c.args.self.now c.self.inside.net.now c.self.inside.runs.now c.self.inside.sim.state c.fill.new.into c.args.run c.args.cycle
    c.self.view_is c.fill.ensures.value
