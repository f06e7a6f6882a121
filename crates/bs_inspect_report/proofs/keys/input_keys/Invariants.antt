use Rattle.std.proofs.Common.{◌≡◌, map, take}
use Rattle.bs_net.specs.Netlist.{circuit}
use Rattle.bs_net.specs.Parts.{key_at}
use Rattle.bs_inspect_report.proofs.keys.input_keys.Given as goal

abbrev pub invariant-inputs : goal.invariant-inputs
invariant-inputs l = map (λ s. s.now) l.keys.items ≡ map (λ n. key_at l.net.raw n.0) (take l.i (circuit l.net).inputs)
