use Rattle.std.proofs.Common.{refl, arith}
use Rattle.std.specs.Prelude.{◌==◌}
use Rattle.std.proofs.lemmas.Bool.{eq-eqb, ne_eqb}
use Rattle.bs_net_facts.specs.declared.fact.Fact.{Fact}
use Rattle.bs_inspect_causes.proofs.SearchLemmas.{any_here, any_more, any_none}
use Rattle.bs_inspect_causes.proofs.chain.has_fact.Goals as goal

pub facts-preserved : goal.facts-preserved
facts-preserved c =
    any_more (λ (g : Fact). g.net.0 == c.args.fact.net.0) c.args.facts.now c.facts.other-index _ _ (omega (arith, c.facts-test.true)) refl
    (ne_eqb _ _ c.if-same.false) c.facts.invariant

pub returns-then-same : goal.returns-then-same
returns-then-same c =
    any_here (λ (g : Fact). g.net.0 == c.args.fact.net.0) c.args.facts.now c.facts.other-index _ _ (omega (arith, c.facts-test.true)) refl
    (eq-eqb _ _ c.if-same.true)

pub returns : goal.returns
returns c =
    any_none (λ (g : Fact). g.net.0 == c.args.fact.net.0) c.args.facts.now c.facts.other-index (omega (arith, c.facts-test.false)) c.facts.invariant
