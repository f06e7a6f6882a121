use Rattle.std.proofs.Common.{◌+◌, List, Result, refl, sym, subst}
use Rattle.bs_flat_nets.specs.declared.blocks.JoinedNets.{JoinedNets}
use Rattle.bs_flat_connect.specs.declared.fault.Fault.{Fault}
use Rattle.bs_flat_connect.specs.Joining.{JoinsAll}
use Rattle.bs_flat_connect.proofs.LoopLemmas.{JoinsSoFar, fails, joins_none, joins_more, joins_stop, joins_all}
use Rattle.bs_flat_connect.proofs.joining.join.Goals as goal

pub each-init : goal.each-init
each-init c = subst (λ (l : List JoinedNets). JoinsSoFar c.args.table.now c.args.wiring.now c.args.matched.now 0 l) (sym c.new-runs.ensures)
    (joins_none c.args.table.now c.args.wiring.now c.args.matched.now)

pub returns-in_err-run : goal.returns-in_err-run
returns-in_err-run c =
    subst (λ (r : Result (List JoinedNets) Fault). JoinsAll c.args.table.now c.args.wiring.now c.args.matched.now r)
    (sym (fails c.from_residual.result c.in_err-run.field-0.0 c.from_residual.ensures))
    (joins_stop c.args.table.now c.args.wiring.now c.args.matched.now c.each.one-index _ _ c.each.runs c.in_err-run.field-0.0 c.each-test.true refl
    c.in_err-run.ensures c.each.invariant)

pub each-preserved : goal.each-preserved
each-preserved c =
    subst (λ (l : List JoinedNets). JoinsSoFar c.args.table.now c.args.wiring.now c.args.matched.now (c.each.one-index + 1) l) (sym c.in_ok-add.ensures)
    (joins_more c.args.table.now c.args.wiring.now c.args.matched.now c.each.one-index _ _ c.each.runs c.in_ok-run.run' c.each-test.true refl
    c.in_ok-run.ensures c.each.invariant)

pub returns : goal.returns
returns c = joins_all c.args.table.now c.args.wiring.now c.args.matched.now c.each.one-index c.each.runs c.each-test.false c.each.invariant
