use Rattle.bs_net.specs.Netlist.{circuit}
use Rattle.bs_stim.specs.Runs.{inputs_of}
use Rattle.bs_inspect_near.specs.Hints.{shifts}
use Rattle.bs_inspect_near.proofs.HintLemmas.{NoneSo}
use Rattle.bs_inspect_near.proofs.hints.recorded_shifted.Given as goal

abbrev pub invariant-shifts : goal.invariant-shifts
invariant-shifts l = NoneSo (circuit l._net) (inputs_of l._runs) (shifts l._seen) l.i
