use Rattle.std.proofs.lemmas.Result.{IfOk-weaker}
use Rattle.bs_inspect_causes.specs.Layers.{IsAccountBy, IsUnitAccount}
use Rattle.bs_inspect_causes.proofs.AccountLemmas.{unit_account}
use Rattle.bs_inspect_causes.proofs.telling.sourced_account.Goals as goal

pub account_by-requires : goal.account_by-requires
account_by-requires c = c.in_ok-block.ensures.is

pub returns : goal.returns
returns c =
    let m = c.args.basis.now.scene.now.moments.now in
    IfOk-weaker c.account_by.result (λ a. IsAccountBy m c.in_ok-block.block c.args.layer a) (λ a. IsUnitAccount m c.args.facts.now c.args.layer a)
    (λ a by.
    unit_account m c.args.basis.now.drivers.now c.args.unit.at c.args.unit.flop c.args.facts.now c.args.layer a c.in_ok-block.block c.requires.unit
    c.in_ok-block.ensures.of_bits c.in_ok-block.ensures.ends by)
    c.account_by.ensures
