use Rattle.bs_inspect_causes.proofs.LayerLemmas.{unit_here}
use Rattle.bs_inspect_causes.proofs.layer.tell_unit_at.Goals as goal

pub tell_unit-requires-clause-unit : goal.tell_unit-requires-clause-unit
tell_unit-requires-clause-unit c =
    unit_here c.args.basis.now.scene.now.moments.now c.args.basis.now.drivers.now c.args.facts.now c.args.from c.args.unit c.requires.real
    c.requires.driven c.requires.unit
