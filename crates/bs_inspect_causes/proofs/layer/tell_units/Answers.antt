use Rattle.std.proofs.Common.{arith}
use Rattle.bs_inspect_causes.proofs.LayerLemmas.{tells_begin, tells_more, tells_whole}
use Rattle.bs_inspect_causes.proofs.layer.tell_units.Goals as goal

pub units-preserved : goal.units-preserved
units-preserved c =
    tells_more c.args.basis.now.scene.now.moments.now c.args.layer c.args.facts.now c.units.from c.unit_at-unit.result.stop c.args.accounts.now c.units.accounts
    c.tell_unit_at.new.accounts c.unit_at-unit.ensures.more c.units.invariant c.in_ok-tell_unit_at.ensures

pub units-init : goal.units-init
units-init c = tells_begin c.args.basis.now.scene.now.moments.now c.args.layer c.args.accounts.now

pub returns : goal.returns
returns c =
    tells_whole c.args.basis.now.scene.now.moments.now c.args.layer c.args.facts.now c.units.from c.args.accounts.now c.units.accounts
    (omega (arith, c.units-test.false)) c.units.invariant
