use Rattle.std.proofs.Common.{◌≡◌, ◌++◌}
use Rattle.std.specs.List.{flat_map, range_with_len}
use Rattle.bs_net.specs.Netlist.{parts_of}
use Rattle.bs_inspect_names.specs.Called.{called_at}
use Rattle.bs_inspect_names.proofs.called.push_keys.Given as goal

abbrev pub invariant-flops : goal.invariant-flops
invariant-flops l = l.text.items ≡ l.initial.text.items ++ flat_map (called_at (parts_of l.raw) l.sources l.nets) (range_with_len 0 l.i)
