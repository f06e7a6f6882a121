use Rattle.std.proofs.Common.{◌≡◌, false, take}
use Rattle.std.specs.Prelude.{◌==◌}
use Rattle.std.specs.List.{list_any}
use Rattle.bs_net.specs.declared.net.Gate.{Gate}
use Rattle.bs_inspect_why.proofs.asked.gate_drives.Given as goal

abbrev pub invariant-gates : goal.invariant-gates
invariant-gates l = list_any (λ (x : Gate). x.out.0 == l.net.0) (take l.gate-index l.gates) ≡ false
