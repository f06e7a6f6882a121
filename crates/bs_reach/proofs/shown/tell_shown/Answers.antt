use Rattle.std.proofs.Common.{◌+◌, subst}
use Rattle.std.specs.Prelude.{IfSome, List, Bool}
use Rattle.bs_reach.specs.Refuted.{IsLogOfLengths}
use Rattle.bs_reach.proofs.shown.tell_shown.Goals as goal

pub as_shown-requires-clause-log : goal.as_shown-requires-clause-log
as_shown-requires-clause-log c =
    subst (λ (r : List Bool). IsLogOfLengths c.args.encoding.now r c.args.state.now c.args.k c.args.b (c.args.c + 1) c.args.c c.in-Some.log) c.reset.ensures
    (subst (λ o. IfSome o (IsLogOfLengths c.args.encoding.now c.reset.result.now c.args.state.now c.args.k c.args.b (c.args.c + 1) c.args.c)) c.in-Some.is
    c.in_ok-found.ensures)
