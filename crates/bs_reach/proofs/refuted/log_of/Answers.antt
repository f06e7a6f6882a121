use Rattle.std.proofs.Common.{reverse, subst}
use Rattle.std.specs.Prelude.{IfSome}
use Rattle.bs_reach.specs.Refuted.{AreRefuted}
use Rattle.bs_reach.proofs.RefutedLemmas.{logs_all}
use Rattle.bs_reach.proofs.refuted.log_of.Goals as goal

pub returns-in-Some : goal.returns-in-Some
returns-in-Some c =
    logs_all c.args.encoding.now c.args.reset.now c.args.state.now c.args.k c.args.b c.args.k c.in-Some._id c.fill.new.log
    (subst (λ o. IfSome o (λ id. AreRefuted c.args.encoding.now c.args.reset.now c.args.state.now c.args.k c.args.b c.args.k id (reverse c.fill.new.log)))
    c.in-Some.is c.in_ok-last.ensures)
