use Rattle.std.proofs.Common.{◌≡◌, false, take}
use Rattle.std.specs.Prelude.{◌==◌}
use Rattle.std.specs.List.{list_any}
use Rattle.bs_net.specs.declared.net.Flop.{Flop}
use Rattle.bs_inspect_why.proofs.asked.flop_drives.Given as goal

abbrev pub invariant-flops : goal.invariant-flops
invariant-flops l = list_any (λ (x : Flop). x.q.0 == l.net.0) (take l.flop-index l.flops) ≡ false
