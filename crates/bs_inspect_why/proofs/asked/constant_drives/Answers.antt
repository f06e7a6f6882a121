use Rattle.std.proofs.Common.{refl, arith}
use Rattle.std.specs.Prelude.{◌==◌}
use Rattle.std.proofs.lemmas.Bool.{eq-eqb, ne_eqb}
use Rattle.bs_net.specs.declared.net.Const.{Const}
use Rattle.bs_inspect_causes.proofs.SearchLemmas.{any_here, any_more, any_none}
use Rattle.bs_inspect_why.proofs.asked.constant_drives.Goals as goal

pub constants-preserved : goal.constants-preserved
constants-preserved c =
    any_more (λ (x : Const). x.net.0 == c.args.net.0) c.args.constants.now c.constants.constant-index _ _ (omega (arith, c.constants-test.true)) refl (ne_eqb _ _ c.if-same.false) c.constants.invariant

pub returns-then-same : goal.returns-then-same
returns-then-same c =
    any_here (λ (x : Const). x.net.0 == c.args.net.0) c.args.constants.now c.constants.constant-index _ _ (omega (arith, c.constants-test.true)) refl (eq-eqb _ _ c.if-same.true)

pub returns : goal.returns
returns c = any_none (λ (x : Const). x.net.0 == c.args.net.0) c.args.constants.now c.constants.constant-index (omega (arith, c.constants-test.false)) c.constants.invariant
