use Rattle.bs_net.specs.Netlist.{circuit}
use Rattle.bs_evidence.proofs.ListLemmas.{all_unlisted}
use Rattle.bs_evidence.proofs.law.all_unlisted_states_are_shown.Goals as goal

pub returns : goal.returns
returns c = all_unlisted (circuit c.args.net.now) c.args.choice.now c.predecessors_are_shown.ensures
