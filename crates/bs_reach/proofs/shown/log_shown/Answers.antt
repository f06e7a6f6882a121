use Rattle.std.proofs.Common.{◌+◌, reverse, subst}
use Rattle.std.specs.Prelude.{IfSome}
use Rattle.bs_reach.specs.Refuted.{AreTried}
use Rattle.bs_reach.proofs.shown.log_shown.Goals as goal

pub returns-in-Some : goal.returns-in-Some
returns-in-Some c = record {
  last = c.in-Some._id;
  tried = subst (λ o. IfSome o (λ id. AreTried c.args.encoding.now c.args.reset.now c.args.state.now c.args.k c.args.b (c.args.c + 1) c.args.c id (reverse c.fill_shown.new.log)))
      c.in-Some.is c.in_ok-last.ensures;
}
