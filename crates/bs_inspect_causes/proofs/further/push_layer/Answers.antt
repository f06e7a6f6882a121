use Rattle.bs_inspect_causes.proofs.FurtherLemmas.{next_more}
use Rattle.bs_inspect_causes.proofs.further.push_layer.Goals as goal

pub returns : goal.returns
returns c =
    next_more c.args.basis.now.scene.now.moments.now c.args.basis.now.drivers.now c.args.accounts.now c.args.place c.index-accounts-place.result c.args.layer
    c.args.facts.now.items c.push_given.new.facts.items c.requires.there c.index-accounts-place.is c.if-account-layer.false c.requires.each
    c.in_ok-push_given.ensures c.requires.before
