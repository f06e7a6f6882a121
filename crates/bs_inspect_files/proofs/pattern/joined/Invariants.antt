use Rattle.std.proofs.Common.{◌≡◌, take}
use Rattle.bs_inspect_files.specs.Readings.{joined}
use Rattle.bs_inspect_files.proofs.pattern.joined.Given as goal

abbrev pub invariant-bytes : goal.invariant-bytes
invariant-bytes l = l.bits.items ≡ joined (take l.i l.text)
