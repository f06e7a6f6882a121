use Rattle.std.proofs.Common.{◌+◌, ◌-◌, ◌/◌, arith}
use Rattle.std.specs.declared.cmp.Ordering.TheVariants.{Less, Equal, Greater}
use Rattle.bs_report.specs.Step.{listed}
use Rattle.bs_audit.proofs.BlockLemmas.{middle_below, compared, listed_length, less_below, greater_above, stands_at, not_found}
use Rattle.bs_audit.proofs.blocks.place_of.Goals as goal

pub halves-preserved-in-Less : goal.halves-preserved-in-Less
halves-preserved-in-Less c =
    let m = c.halves.low + (c.halves.high - c.halves.low) / 2 in
    let below = middle_below c.halves.low c.halves.high c.halves-test.true in
    let there =
    compared c.args.cands.now m c.index-cands-middle.result c.args.state.now c.order.result Less
    (omega (arith, below, c.halves.invariant.within)) c.order.ensures c.in-Less.is in
    record {
      within = c.halves.invariant.within;
      less =
          less_below (listed c.args.cands.now) c.args.state.now m c.requires
          (omega (arith, below, c.halves.invariant.within, listed_length c.args.cands.now)) there;
      greater = c.halves.invariant.greater;
    }

pub returns-in-Equal : goal.returns-in-Equal
returns-in-Equal c =
    let m = c.halves.low + (c.halves.high - c.halves.low) / 2 in
    let below = middle_below c.halves.low c.halves.high c.halves-test.true in
    let there =
    compared c.args.cands.now m c.index-cands-middle.result c.args.state.now c.order.result Equal
    (omega (arith, below, c.halves.invariant.within)) c.order.ensures c.in-Equal.is in
    stands_at (listed c.args.cands.now) c.args.state.now m (omega (arith, below, c.halves.invariant.within, listed_length c.args.cands.now)) there

pub halves-preserved : goal.halves-preserved
halves-preserved c =
    let m = c.halves.low + (c.halves.high - c.halves.low) / 2 in
    let below = middle_below c.halves.low c.halves.high c.halves-test.true in
    let there =
    compared c.args.cands.now m c.index-cands-middle.result c.args.state.now c.order.result Greater
    (omega (arith, below, c.halves.invariant.within)) c.order.ensures c.in-Greater.is in
    record {
      within = omega (arith, below, c.halves.invariant.within);
      less = c.halves.invariant.less;
      greater =
          greater_above (listed c.args.cands.now) c.args.state.now m c.requires
          (omega (arith, below, c.halves.invariant.within, listed_length c.args.cands.now)) there;
    }

pub returns : goal.returns
returns c =
    not_found (listed c.args.cands.now) c.args.state.now c.halves.low c.halves.high c.halves-test.false c.halves.invariant.less c.halves.invariant.greater
