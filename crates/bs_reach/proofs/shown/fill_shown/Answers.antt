use Rattle.std.proofs.Common.{reverse, subst}
use Rattle.std.specs.Prelude.{IfSome}
use Rattle.bs_reach.specs.Refuted.{AreRefuted}
use Rattle.bs_reach.proofs.shown.fill_shown.Goals as goal

pub log_trial-requires-clause-so_far : goal.log_trial-requires-clause-so_far
log_trial-requires-clause-so_far c =
    subst (λ o. IfSome o (λ id. AreRefuted c.args.encoding.now c.args.reset.now c.args.state.now c.args.k c.args.b c.args.c id (reverse c.fill.new.log)))
    c.in-Some.is c.in_ok-found.ensures
