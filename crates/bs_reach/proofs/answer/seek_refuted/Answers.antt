use Rattle.std.proofs.Common.{subst}
use Rattle.std.specs.Prelude.{IfSome}
use Rattle.bs_reach.specs.Refuted.{IsLogOfLengths}
use Rattle.bs_reach.proofs.answer.seek_refuted.Goals as goal

pub as_refuted-requires : goal.as_refuted-requires
as_refuted-requires c =
    subst (λ o. IfSome o (IsLogOfLengths c.args.encoding.now c.args.reset.now c.args.state.now c.args.k c.args.b c.args.k c.args.k)) c.in-Some.is c.in_ok-found.ensures
