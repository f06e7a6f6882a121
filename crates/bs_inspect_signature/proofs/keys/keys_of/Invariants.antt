use Rattle.std.proofs.Common.{◌≡◌, [], map, take}
use Rattle.std.specs.Prelude.{slice_index_or}
use Rattle.bs_net.specs.Netlist.{parts_of}
use Rattle.bs_inspect_signature.proofs.keys.keys_of.Given as goal

abbrev pub invariant-flops : goal.invariant-flops
invariant-flops l = map (λ s. s.now) l.keys.items ≡ map (λ f. slice_index_or (parts_of l.raw).names f.q.0 []) (take l.i l.raw.flops)
