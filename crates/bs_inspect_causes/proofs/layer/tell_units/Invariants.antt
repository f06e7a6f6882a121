use Rattle.std.proofs.Common.{◌-◌, length, take}
use Rattle.bs_inspect_causes.specs.Layers.{Tells}
use Rattle.bs_inspect_causes.proofs.layer.tell_units.Given as goal

abbrev pub invariant-units : goal.invariant-units
invariant-units l = Tells l.basis.scene.now.moments.now l.layer (take l.from l.facts) l.initial.accounts l.accounts

abbrev pub decreases-units : goal.decreases-units
decreases-units l = length l.facts - l.from
