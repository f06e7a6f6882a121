use Rattle.bs_net.specs.Netlist.{circuit}
use Rattle.bs_stim.specs.Runs.{inputs_of}
use Rattle.bs_inspect_near.proofs.EachLemmas.{EachSo}
use Rattle.bs_inspect_near.proofs.search.with_states.Given as goal

abbrev pub invariant-states : goal.invariant-states
invariant-states l = EachSo (circuit l.net) (inputs_of l.runs) l.states l.cycle l.i l.bests.items
