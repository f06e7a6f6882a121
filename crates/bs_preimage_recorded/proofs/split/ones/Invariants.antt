use Rattle.std.proofs.Common.{◌≡◌, take}
use Rattle.std.specs.Prelude.{count_by}
use Rattle.bs_net.specs.Gate.{is_one}
use Rattle.bs_preimage_recorded.proofs.split.ones.Given as goal

abbrev pub invariant-bits : goal.invariant-bits
invariant-bits l = l.count ≡ count_by is_one (take l.i l.bits)
