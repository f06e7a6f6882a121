use Rattle.std.proofs.Common.{◌≡◌, take}
use Rattle.bs_inspect_report.specs.Signal.{signal_bits}
use Rattle.bs_inspect_report.proofs.signal.signal_row.Given as goal

abbrev pub invariant-places : goal.invariant-places
invariant-places l = l.own ≡ signal_bits l.bits (take l.place-index l.places)
