use Rattle.std.proofs.Common.{◌≡◌, false, take}
use Rattle.std.specs.Prelude.{◌==◌}
use Rattle.std.specs.List.{list_any}
use Rattle.bs_net.specs.declared.net.NetId.{NetId}
use Rattle.bs_inspect_why.proofs.asked.has_net.Given as goal

abbrev pub invariant-nets : goal.invariant-nets
invariant-nets l = list_any (λ (x : NetId). x.0 == l.net.0) (take l.other-index l.nets) ≡ false
