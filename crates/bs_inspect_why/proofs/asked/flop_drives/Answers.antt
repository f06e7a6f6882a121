use Rattle.std.proofs.Common.{refl, arith}
use Rattle.std.specs.Prelude.{◌==◌}
use Rattle.std.proofs.lemmas.Bool.{eq-eqb, ne_eqb}
use Rattle.bs_net.specs.declared.net.Flop.{Flop}
use Rattle.bs_inspect_causes.proofs.SearchLemmas.{any_here, any_more, any_none}
use Rattle.bs_inspect_why.proofs.asked.flop_drives.Goals as goal

pub flops-preserved : goal.flops-preserved
flops-preserved c =
    any_more (λ (x : Flop). x.q.0 == c.args.net.0) c.args.flops.now c.flops.flop-index _ _ (omega (arith, c.flops-test.true)) refl (ne_eqb _ _ c.if-same.false) c.flops.invariant

pub returns-then-same : goal.returns-then-same
returns-then-same c =
    any_here (λ (x : Flop). x.q.0 == c.args.net.0) c.args.flops.now c.flops.flop-index _ _ (omega (arith, c.flops-test.true)) refl (eq-eqb _ _ c.if-same.true)

pub returns : goal.returns
returns c = any_none (λ (x : Flop). x.q.0 == c.args.net.0) c.args.flops.now c.flops.flop-index (omega (arith, c.flops-test.false)) c.flops.invariant
