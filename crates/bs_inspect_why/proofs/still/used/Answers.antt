use Rattle.std.proofs.Common.{arith}
use Rattle.std.specs.List.{list_any}
use Rattle.bs_inspect_causes.proofs.ChainLemmas.{kind_all, kind_more}
use Rattle.bs_inspect_why.specs.Stills.{is_given_in}
use Rattle.bs_inspect_why.proofs.still.used.Goals as goal

pub stills-preserved : goal.stills-preserved
stills-preserved c =
    kind_more (λ s. list_any (is_given_in s) c.args.accounts.now) c.args.stills.now c.stills.still-index _ _ _ _ (omega (arith, c.stills-test.true))
    c.is_used-wanted.ensures c.in_ok-push_wanted.ensures c.stills.invariant

pub returns : goal.returns
returns c =
    kind_all (λ s. list_any (is_given_in s) c.args.accounts.now) c.args.stills.now c.stills.still-index _ (omega (arith, c.stills-test.false))
    c.stills.invariant
