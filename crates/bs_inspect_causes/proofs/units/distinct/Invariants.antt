use Rattle.bs_inspect_causes.specs.Layers.{KeepsFirst}
use Rattle.bs_inspect_causes.proofs.units.distinct.Given as goal

abbrev pub invariant-facts : goal.invariant-facts
invariant-facts l = KeepsFirst l.facts l.i l.kept
