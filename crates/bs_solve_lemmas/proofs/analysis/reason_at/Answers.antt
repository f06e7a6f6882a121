use Rattle.std.proofs.Common.{ℕ, Option, Some, None}
use Rattle.std.specs.Prelude.{IfSome, IfNone}
use Rattle.bs_watch.specs.Places.{IsImpliedBy, HasNoReason}
use Rattle.bs_solve_lemmas.specs.ImplicationPoint.{IsReasonIn}
use Rattle.bs_solve_lemmas.proofs.Points.{implied_in, reasonless_in}
use Rattle.bs_solve_lemmas.proofs.analysis.reason_at.Goals as goal

pub returns : goal.returns
returns c = by c.reason.result c.reason.ensures.some c.reason.ensures.none
  where
    by : (o : Option ℕ) → IfSome o (IsImpliedBy c.args.watch.now.trail.places c.args.l) → IfNone o (HasNoReason c.args.watch.now.trail.places c.args.l) →
        IsReasonIn c.args.watch.now.trail.places c.args.at o
    by None some none = reasonless_in c.args.watch.now.trail.places c.args.at c.args.l c.requires.literal none
    by (Some r) some none =
        implied_in c.args.watch.now.trail.places c.args.at c.args.l r c.holds_levels.ensures.apart c.requires.literal some
