use Rattle.bs_inspect_causes.proofs.LayerLemmas.{tells_account}
use Rattle.bs_inspect_causes.proofs.layer.tell_unit.Goals as goal

pub returns : goal.returns
returns c =
    tells_account c.args.basis.now.scene.now.moments.now c.args.layer c.args.facts.now c.args.accounts.now c.push.new.self c.in_ok-account.account
    c.in_ok-account.ensures c.in_ok-push.ensures.ok
