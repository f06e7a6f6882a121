use Rattle.std.proofs.Common.{◌≡◌, ◌++◌, take}
use Rattle.bs_flat_connect.proofs.copies.add_flops.Given as goal

abbrev pub invariant-flops : goal.invariant-flops
invariant-flops l = l.all ≡ l.initial.all ++ take l.flop-index l.from
