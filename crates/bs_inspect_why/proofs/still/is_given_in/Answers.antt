use Rattle.std.proofs.Common.{ap, ◌∙◌, arith}
use Rattle.std.specs.List.{list_any}
use Rattle.bs_net_facts.specs.declared.fact.Fact.{Fact}
use Rattle.bs_inspect_causes.proofs.SearchLemmas.{any_here, any_more, any_none}
use Rattle.bs_inspect_why.specs.Stills.{covers}
use Rattle.bs_inspect_why.proofs.still.is_given_in.Goals as goal

pub given-preserved : goal.given-preserved
given-preserved c =
    any_more (λ (f : Fact). covers f c.args.still) c.slice-given.result.now c.given.fact-index _ c.covers.result (omega (arith, c.given-test.true)) c.covers.ensures
    c.if-covers.false c.given.invariant

pub returns-then-covers : goal.returns-then-covers
returns-then-covers c =
    any_here (λ (f : Fact). covers f c.args.still) c.slice-given.result.now c.given.fact-index _ c.covers.result (omega (arith, c.given-test.true)) c.covers.ensures
    c.if-covers.true
    ∙ ap (list_any (λ (f : Fact). covers f c.args.still)) c.slice-given.ensures

pub returns : goal.returns
returns c = any_none (λ (f : Fact). covers f c.args.still) c.slice-given.result.now c.given.fact-index (omega (arith, c.given-test.false)) c.given.invariant
    ∙ ap (list_any (λ (f : Fact). covers f c.args.still)) c.slice-given.ensures
