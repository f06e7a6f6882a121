use Rattle.std.proofs.Common.{◌≡◌, ◌++◌, take}
use Rattle.bs_net.specs.Netlist.{parts_of}
use Rattle.bs_inspect_names.specs.Cone.{inputs_piece}
use Rattle.bs_inspect_names.proofs.cone.push_inputs.Given as goal

abbrev pub invariant-inputs : goal.invariant-inputs
invariant-inputs l = l.text.items ≡ l.initial.text.items ++ inputs_piece (parts_of l.raw) l.table (take l.input-index l.inputs)
