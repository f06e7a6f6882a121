use Rattle.std.proofs.Common.{◌+◌, subst}
use Rattle.std.specs.Prelude.{IfSome}
use Rattle.bs_reach_unrolled.specs.Unrolled.{unrolled, length_assumes}
use Rattle.bs_solve.specs.Failure.{FailsBy}
use Rattle.bs_reach.proofs.refuted.add_length.Goals as goal

pub log_denied-requires-clause-failed_assumption : goal.log_denied-requires-clause-failed_assumption
log_denied-requires-clause-failed_assumption c =
    subst (λ o. IfSome o (FailsBy (unrolled c.args.encoding.now c.args.reset.now c.args.k) (length_assumes c.args.encoding.now c.args.k c.args.state.now (c.args.c + 1))))
    c.in-Some.is c.in_ok-found.ensures
