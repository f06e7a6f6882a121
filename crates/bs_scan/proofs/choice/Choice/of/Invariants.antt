use Rattle.std.proofs.Common.{◌≡◌, take}
use Rattle.bs_scan.specs.Signature.{signature}
use Rattle.bs_scan.proofs.choice.Choice.of.Given as goal

abbrev pub invariant-items : goal.invariant-items
invariant-items l = l.bits ≡ take l.i (signature l.self l.state)
