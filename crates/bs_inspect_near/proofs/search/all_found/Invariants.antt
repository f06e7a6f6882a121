use Rattle.bs_net.specs.Netlist.{circuit}
use Rattle.bs_stim.specs.Runs.{inputs_of}
use Rattle.bs_inspect_near.proofs.EachLemmas.{NearsSo}
use Rattle.bs_inspect_near.proofs.search.all_found.Given as goal

abbrev pub invariant-places : goal.invariant-places
invariant-places l = NearsSo (circuit l._net) (inputs_of l._runs) l._states l.i l.nears.items
