use Rattle.std.proofs.Common.{◌≡◌, map, take}
use Rattle.bs_net.specs.Netlist.{parts_of}
use Rattle.bs_net_names.specs.Keys.{key_parts, parts_in}
use Rattle.bs_inspect_seen.proofs.numbers.net_parts.Given as goal

abbrev pub invariant-nets : goal.invariant-nets
invariant-nets l = map parts_in l.nets.items ≡ map key_parts (take l.n (parts_of l.raw).names)
