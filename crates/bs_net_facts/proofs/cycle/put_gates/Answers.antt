use Rattle.bs_net_facts.proofs.CycleLemmas.{stays_gates}
use Rattle.bs_net_facts.proofs.cycle.put_gates.Goals as goal

pub gates-preserved : goal.gates-preserved
gates-preserved c = stays_gates c.args.board.now c.gates.board c.put_numbered.new.board c.gates.invariant c.in_ok-put_numbered.ensures
