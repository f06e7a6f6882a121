use Rattle.std.specs.List.{All}
use Rattle.bs_inspect_causes.specs.Layers.{IsNext}
use Rattle.bs_inspect_causes.proofs.further.further_facts.Given as goal

abbrev pub invariant-accounts : goal.invariant-accounts
invariant-accounts l = All (IsNext l.basis.scene.now.moments.now l.basis.drivers.now l.accounts l.layer) l.facts.items
