use Rattle.bs_inspect_causes.proofs.LayerLemmas.{kept_driven, kept_real, tells_kept}
use Rattle.bs_inspect_causes.proofs.layer.tell_facts.Goals as goal

pub tell_units-requires-clause-real : goal.tell_units-requires-clause-real
tell_units-requires-clause-real c = kept_real c.args.basis.now.scene.now.moments.now _ _ _ c.requires.real c.in_ok-kept.ensures c.slice.ensures

pub tell_units-requires-clause-driven : goal.tell_units-requires-clause-driven
tell_units-requires-clause-driven c = kept_driven c.args.basis.now.drivers.now _ _ _ c.requires.driven c.in_ok-kept.ensures c.slice.ensures

pub returns : goal.returns
returns c = tells_kept c.args.basis.now.scene.now.moments.now c.args.layer _ _ _ _ _ c.in_ok-kept.ensures c.slice.ensures c.in_ok-tell_units.ensures
