use Rattle.bs_net.specs.Netlist.{circuit}
use Rattle.bs_inspect_report_texts.proofs.WayLemmas.{state_more}
use Rattle.bs_inspect_report_texts.proofs.way.step_at.Goals as goal

pub returns-clause-at : goal.returns-clause-at
returns-clause-at c =
    state_more (circuit c.args.sim.now.net) c.args.inputs.now c.args.cycle c.args.sim.now.state c.get.result.now c.step.new.self.state c.requires.there
    c.requires.at c.get.ensures.value c.step.ensures.state
