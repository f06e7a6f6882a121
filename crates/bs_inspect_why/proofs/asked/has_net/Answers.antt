use Rattle.std.proofs.Common.{refl, arith}
use Rattle.std.specs.Prelude.{◌==◌}
use Rattle.std.proofs.lemmas.Bool.{eq-eqb, ne_eqb}
use Rattle.bs_net.specs.declared.net.NetId.{NetId}
use Rattle.bs_inspect_causes.proofs.SearchLemmas.{any_here, any_more, any_none}
use Rattle.bs_inspect_why.proofs.asked.has_net.Goals as goal

pub nets-preserved : goal.nets-preserved
nets-preserved c =
    any_more (λ (x : NetId). x.0 == c.args.net.0) c.args.nets.now c.nets.other-index _ _ (omega (arith, c.nets-test.true)) refl (ne_eqb _ _ c.if-same.false) c.nets.invariant

pub returns-then-same : goal.returns-then-same
returns-then-same c =
    any_here (λ (x : NetId). x.0 == c.args.net.0) c.args.nets.now c.nets.other-index _ _ (omega (arith, c.nets-test.true)) refl (eq-eqb _ _ c.if-same.true)

pub returns : goal.returns
returns c = any_none (λ (x : NetId). x.0 == c.args.net.0) c.args.nets.now c.nets.other-index (omega (arith, c.nets-test.false)) c.nets.invariant
