use Rattle.std.proofs.Common.{arith, ap, not}
use Rattle.bs_inspect_causes.proofs.ChainLemmas.{kind_all, kind_more}
use Rattle.bs_inspect_why.specs.Stills.{is_covered}
use Rattle.bs_inspect_why.proofs.still.shown.Goals as goal

pub facts-preserved : goal.facts-preserved
facts-preserved c =
    kind_more (λ f. not (is_covered c.args.stills.now f)) c.args.facts.now c.facts.fact-index _ _ _ _ (omega (arith, c.facts-test.true))
    (ap not c.is_covered-covered.ensures) c.in_ok-push_wanted.ensures c.facts.invariant

pub returns : goal.returns
returns c =
    kind_all (λ f. not (is_covered c.args.stills.now f)) c.args.facts.now c.facts.fact-index _ (omega (arith, c.facts-test.false)) c.facts.invariant
