use Rattle.std.proofs.Common.{◌≡◌, take, length, List, Bool}
use Rattle.std.specs.Prelude.{All}
use Rattle.bs_net.specs.Netlist.{circuit}
use Rattle.bs_reach_execution.proofs.trial.are_wide.Given as goal

abbrev pub invariant-inputs : goal.invariant-inputs
invariant-inputs l = All (λ (x : List Bool). length x ≡ length (circuit l.net).inputs) (take l.input-index l.inputs)
