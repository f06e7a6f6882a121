use Rattle.std.proofs.Common.{ap, arith}
use Rattle.std.specs.Prelude.{◌==◌}
use Rattle.std.proofs.lemmas.Bool.{eq-eqb, ne_eqb}
use Rattle.bs_net.specs.declared.net.Gate.{Gate}
use Rattle.bs_inspect_causes.proofs.SearchLemmas.{any_here, any_more, any_none}
use Rattle.bs_inspect_why.proofs.asked.gate_drives.Goals as goal

pub gates-preserved : goal.gates-preserved
gates-preserved c =
    any_more (λ (x : Gate). x.out.0 == c.args.net.0) c.args.gates.now c.gates.gate-index c.gate-item.result _ (omega (arith, c.gates-test.true)) (ap (λ (x : Gate). x.out.0 == c.args.net.0) c.gate-item.is) (ne_eqb _ _ c.if-same.false) c.gates.invariant

pub returns-then-same : goal.returns-then-same
returns-then-same c =
    any_here (λ (x : Gate). x.out.0 == c.args.net.0) c.args.gates.now c.gates.gate-index c.gate-item.result _ (omega (arith, c.gates-test.true)) (ap (λ (x : Gate). x.out.0 == c.args.net.0) c.gate-item.is) (eq-eqb _ _ c.if-same.true)

pub returns : goal.returns
returns c = any_none (λ (x : Gate). x.out.0 == c.args.net.0) c.args.gates.now c.gates.gate-index (omega (arith, c.gates-test.false)) c.gates.invariant
