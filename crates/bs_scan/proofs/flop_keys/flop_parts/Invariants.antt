use Rattle.std.proofs.Common.{◌≡◌, map, take}
use Rattle.bs_net.specs.Netlist.{parts_of}
use Rattle.bs_net.specs.Parts.{key_at}
use Rattle.bs_net_names.specs.Keys.{key_parts, parts_in}
use Rattle.bs_scan.proofs.flop_keys.flop_parts.Given as goal

abbrev pub invariant-flops : goal.invariant-flops
invariant-flops l = map parts_in l.keys.items ≡ map (λ f. key_parts (key_at (parts_of l.raw) f.q.0)) (take l.i l.raw.flops)
