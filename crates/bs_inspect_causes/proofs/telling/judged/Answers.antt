use Rattle.std.proofs.lemmas.Result.{IfOk-weaker}
use Rattle.bs_inspect_causes.specs.Layers.{IsAccountBy, IsUnitAccount}
use Rattle.bs_inspect_causes.proofs.AccountLemmas.{unit_account}
use Rattle.bs_inspect_causes.proofs.telling.judged.Goals as goal

pub returns-then-is : goal.returns-then-is
returns-then-is c =
    let m = c.args.basis.now.scene.now.moments.now in
    IfOk-weaker c.account_by.result (λ a. IsAccountBy m c.args.proposal.block c.args.layer a) (λ a. IsUnitAccount m c.args.facts.now c.args.layer a)
    (λ a by.
    unit_account m c.args.basis.now.drivers.now c.args.unit.at c.args.unit.flop c.args.facts.now c.args.layer a c.args.proposal.block c.requires.unit c.requires.bits
    c.requires.at by)
    c.account_by.ensures
