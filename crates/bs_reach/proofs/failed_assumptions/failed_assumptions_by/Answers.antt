use Rattle.std.proofs.Common.{◌+◌, ◌∙◌, arith, ap, length, sym, subst}
use Rattle.std.specs.Prelude.{IfSome}
use Rattle.std.proofs.lemmas.List.{length_push}
use Rattle.bs_reach_unrolled.specs.Unrolled.{length_assumes, unrolled}
use Rattle.bs_solve.specs.Failure.{FailsBy}
use Rattle.bs_reach.specs.FailedAssumptions.{AreFailedAssumptions}
use Rattle.bs_reach.proofs.FailedAssumptionLemmas.{failed_assumptions_push}
use Rattle.bs_reach.proofs.failed_assumptions.failed_assumptions_by.Goals as goal

pub lengths-preserved : goal.lengths-preserved
lengths-preserved c =
    let items = c.in_ok-push_back-in-Some.ensures.items in
    let all = unrolled c.args.encoding.now c.args.reset.now c.args.k in
    record {
      failed_assumptions = subst (AreFailedAssumptions all c.args.encoding.now c.args.k c.args.state.now 0) (sym items)
          (failed_assumptions_push all c.args.encoding.now c.args.k c.args.state.now 0 c.lengths.c c.lengths.found.items c.in-Some.one
          c.lengths.invariant.failed_assumptions c.lengths.invariant.count
          (subst (λ o. IfSome o (FailsBy all (length_assumes c.args.encoding.now c.args.k c.args.state.now (c.lengths.c + 1))))
          c.in-Some.is c.in_ok-next.ensures));
      count =
          let n = ap length items ∙ length_push c.lengths.found.items c.in-Some.one in
          let m = c.lengths.invariant.count in
          omega (arith, n, m);
    }
