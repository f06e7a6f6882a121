use Rattle.std.proofs.Common.{ap, ◌∙◌, arith}
use Rattle.bs_inspect_causes.proofs.SearchLemmas.{any_here, any_more, any_none}
use Rattle.bs_inspect_why.specs.Stills.{is_given_in}
use Rattle.bs_inspect_why.proofs.still.is_used.Goals as goal

pub accounts-preserved : goal.accounts-preserved
accounts-preserved c =
    any_more (is_given_in c.args.still) c.args.accounts.now c.accounts.account-index c.account-item.result c.is_given_in.result (omega (arith, c.accounts-test.true)) (c.is_given_in.ensures ∙ ap (is_given_in c.args.still) c.account-item.is)
    c.if-is_given_in.false c.accounts.invariant

pub returns-then-is_given_in : goal.returns-then-is_given_in
returns-then-is_given_in c =
    any_here (is_given_in c.args.still) c.args.accounts.now c.accounts.account-index c.account-item.result c.is_given_in.result (omega (arith, c.accounts-test.true)) (c.is_given_in.ensures ∙ ap (is_given_in c.args.still) c.account-item.is)
    c.if-is_given_in.true

pub returns : goal.returns
returns c = any_none (is_given_in c.args.still) c.args.accounts.now c.accounts.account-index (omega (arith, c.accounts-test.false)) c.accounts.invariant
