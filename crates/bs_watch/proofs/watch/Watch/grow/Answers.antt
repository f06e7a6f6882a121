use Rattle.std.proofs.Common.{rules, sym, subst, ap, refl}
use Rattle.std.specs.Prelude.{vec_capacity}
use Rattle.bs_watch.specs.Watch.{WatchState, IsWatch}
use Rattle.bs_watch.specs.Spans.{IsSpan}
use Rattle.bs_watch.proofs.Grown.{serves_by_grow}
use Rattle.bs_watch.proofs.Spans.{grown_span}
use Rattle.bs_watch.proofs.watch.Watch.grow.Goals as goal

pub returns-in-Ok-clause-serves : goal.returns-in-Ok-clause-serves
returns-in-Ok-clause-serves c = serves_by_grow c.args.self.now _ (search rules)

pub invariant_of-self-in-Ok : goal.invariant_of-self-in-Ok
invariant_of-self-in-Ok c =
    let new : WatchState =
    record { trail = c.grow-2.new.self; levels = c.reserve.new.self.items; head = c.self.inside.head; lists = c.grow.new.self } in
    let is : IsWatch new (vec_capacity c.reserve.new.self) = search rules in
    record {
      is = is;
      span = subst (λ t. IsSpan t c.self.inside.span) (sym c.in-Ok.ensures.ok) (grown_span c.self.inside.trail c.self.inside.span c.self.invariant.span);
    }
