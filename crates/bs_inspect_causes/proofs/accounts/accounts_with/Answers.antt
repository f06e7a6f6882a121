use Rattle.bs_inspect_causes.proofs.ExplainLemmas.{asked_due}
use Rattle.bs_inspect_causes.proofs.accounts.accounts_with.Goals as goal

pub tell_layers-requires-clause-due : goal.tell_layers-requires-clause-due
tell_layers-requires-clause-due c =
    asked_due c.args.basis.now.scene.now.moments.now c.args.basis.now.drivers.now c.args.asked.now _ _ c.requires.ready c.in_ok-first.ensures.items c.requires.real
    c.requires.driven
