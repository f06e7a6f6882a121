use Rattle.std.proofs.Common.{◌≡◌, take}
use Rattle.bs_inspect_view.specs.View.{signal_values}
use Rattle.bs_inspect_view.proofs.value.signal_values.Given as goal

abbrev pub invariant-places : goal.invariant-places
invariant-places l = l.own.items ≡ signal_values l.values (take l.place-index l.places)
