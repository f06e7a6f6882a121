use Rattle.std.proofs.Common.{◌≡◌, ◌++◌}
use Rattle.std.specs.List.{flat_map, range_with_len}
use Rattle.bs_inspect_netlist.specs.Lines.{input_at_line}
use Rattle.bs_inspect_netlist.proofs.bits.push_inputs.Given as goal

abbrev pub invariant-inputs : goal.invariant-inputs
invariant-inputs l = l.text.items ≡ l.initial.text.items ++ flat_map (input_at_line l.net.raw l.sources) (range_with_len 0 l.i)
