use Rattle.std.proofs.Common.{◌≡◌, false, take}
use Rattle.std.specs.Prelude.{◌==◌}
use Rattle.std.specs.List.{list_any}
use Rattle.bs_net.specs.declared.net.Const.{Const}
use Rattle.bs_inspect_why.proofs.asked.constant_drives.Given as goal

abbrev pub invariant-constants : goal.invariant-constants
invariant-constants l = list_any (λ (x : Const). x.net.0 == l.net.0) (take l.constant-index l.constants) ≡ false
