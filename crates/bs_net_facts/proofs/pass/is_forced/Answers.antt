use Rattle.std.proofs.Common.{subst}
use Rattle.bs_net.specs.Netlist.{Checked, circuit}
use Rattle.bs_net_facts.specs.Marked.{Forced}
use Rattle.bs_net_facts.proofs.pass.is_forced.Goals as goal

pub returns : goal.returns
returns c = λ yes. subst (λ (n : Checked). Forced (circuit n) c.args.block.now) c.in_ok-board.ensures.net (c.in_ok-forced.ensures yes)
