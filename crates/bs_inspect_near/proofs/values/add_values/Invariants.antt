use Rattle.bs_net.specs.Netlist.{circuit}
use Rattle.bs_stim.specs.Runs.{inputs_of}
use Rattle.bs_inspect_near.proofs.ValueLemmas.{SetSo}
use Rattle.bs_inspect_near.proofs.values.add_values.Given as goal

abbrev pub invariant-values : goal.invariant-values
invariant-values l = SetSo (circuit l.run.net.now) (inputs_of l.run.runs.now) l.run.number l.places l.initial.values l.counter l.values
