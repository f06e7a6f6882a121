use Rattle.std.proofs.Common.{◌≡◌, map, take}
use Rattle.bs_net.specs.Netlist.{parts_of}
use Rattle.bs_net.specs.Parts.{key_at}
use Rattle.bs_inspect_seen.proofs.numbers.flop_bytes.Given as goal

abbrev pub invariant-flops : goal.invariant-flops
invariant-flops l = map (λ k. k.now) l.keys.items ≡ map (λ f. key_at (parts_of l.raw) f.q.0) (take l.i l.raw.flops)
