use Rattle.bs_reach_answer.proofs.CycleLemmas.{cycles_asked}
use Rattle.bs_reach_answer.proofs.searched.load_cycles.Goals as goal

pub returns-in-Ok-clause-cycles : goal.returns-in-Ok-clause-cycles
returns-in-Ok-clause-cycles g c =
    cycles_asked _ _ _ _ _ c.args.netlist.now c.args.state.now c.args.cycles c.in-Ok.target c.in-Ok.ensures
