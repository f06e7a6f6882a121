use Rattle.bs_inspect_causes.specs.Layers.{AsksMore}
use Rattle.bs_inspect_causes.proofs.further.push_given.Given as goal

abbrev pub invariant-given : goal.invariant-given
invariant-given l = AsksMore l.basis.drivers.now l.account l.initial.facts.items l.facts.items
