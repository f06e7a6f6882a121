use Rattle.bs_inspect_causes.specs.Layers.{AreDue, ExplainSoFar}
use Rattle.bs_inspect_causes.proofs.accounts.tell_layers.Given as goal

abbrev pub invariant-layers : goal.invariant-layers
invariant-layers l = record {
  so_far : ExplainSoFar l.basis.scene.now.moments.now l.asked l.layer l.accounts;
  due : AreDue l.basis.scene.now.moments.now l.basis.drivers.now l.asked l.layer l.accounts l.facts.items;
}
