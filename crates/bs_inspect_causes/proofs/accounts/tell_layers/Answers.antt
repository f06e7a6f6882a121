use Rattle.std.proofs.Common.{arith}
use Rattle.bs_inspect_causes.proofs.ExplainLemmas.{explain_from}
use Rattle.bs_inspect_causes.proofs.accounts.tell_layers.Goals as goal

pub layers-preserved : goal.layers-preserved
layers-preserved c = record { so_far = c.in_ok-facts.ensures.so_far; due = c.in_ok-facts.ensures.due }

pub returns : goal.returns
returns c =
    explain_from c.args.basis.now.scene.now.moments.now c.args.asked.now c.layers.layer c.args.depth c.layers.accounts
    (omega (arith, c.requires.some_layer, c.layers-test.false)) (omega (arith, c.layers.auto.layer-end)) c.layers.invariant.so_far
