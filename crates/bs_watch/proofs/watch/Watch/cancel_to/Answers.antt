use Rattle.std.proofs.Common.{◌≡◌, ◌≤◌, ◌<◌, length, take, ap, refl, sym, subst, ◌∙◌, arith, Some}
use Rattle.std.specs.Prelude.{vec_capacity, slice_get, IfSome}
use Rattle.std.proofs.lemmas.Option.{slice_get_read, slice_get_past}
use Rattle.bs_watch.specs.Watch.{WatchState, KeepsService, HasGoneBack}
use Rattle.bs_watch.specs.Spans.{IsSpan}
use Rattle.bs_watch.proofs.Services.{cancelled_serves}
use Rattle.bs_watch.proofs.Levels.{cancelled_watch}
use Rattle.bs_watch.proofs.Spans.{cut_span}
use Rattle.bs_watch.proofs.watch.Watch.cancel_to.Goals as goal

pub returns-then-level-len-clause-serves : goal.returns-then-level-len-clause-serves
returns-then-level-len-clause-serves c =
    let old : WatchState =
    record { trail = c.self.inside.trail; levels = c.self.inside.levels.items; head = c.self.inside.head; lists = c.self.inside.lists } in
    let new : WatchState =
    record { trail = c.cut.new.self; levels = c.truncate.new.self.items; head = c.index-begun.result.now.looked; lists = c.self.inside.lists } in
    let within : c.args.level < length c.self.inside.levels.items = omega (arith, c.len.ensures, c.self.inside.levels.ok.0) in
    subst (λ w. KeepsService w new) c.self.view_is
    (cancelled_serves (vec_capacity c.self.inside.levels) old new c.args.level c.index-begun.result.now c.self.invariant.is
    (slice_get_read c.self.inside.levels.items (length c.self.inside.levels.items) c.args.level c.index-begun.result.now (omega arith) within
    c.index-begun.ensures)
    c.cut.ensures c.truncate.ensures.items refl refl)

pub returns-else-level-len-clause-back : goal.returns-else-level-len-clause-back
returns-else-level-len-clause-back c =
    let inside : length c.self.inside.levels.items ≤ c.args.level = omega (arith, c.len.ensures, c.self.inside.levels.ok.0) in
    let past : length c.args.self.now.levels ≤ c.args.level = subst (λ (w : WatchState). length w.levels ≤ c.args.level) c.self.view_is inside in
    subst (λ o. IfSome o (HasGoneBack c.args.self.now c.args.self.now)) (sym (slice_get_past c.args.self.now.levels c.args.level past)) tt

pub invariant_of-self : goal.invariant_of-self
invariant_of-self c =
    let old : WatchState =
    record { trail = c.self.inside.trail; levels = c.self.inside.levels.items; head = c.self.inside.head; lists = c.self.inside.lists } in
    let new : WatchState =
    record { trail = c.cut.new.self; levels = c.truncate.new.self.items; head = c.index-begun.result.now.looked; lists = c.self.inside.lists } in
    let within : c.args.level < length c.self.inside.levels.items = omega (arith, c.len.ensures, c.self.inside.levels.ok.0) in
    let there : slice_get c.self.inside.levels.items c.args.level ≡ Some c.index-begun.result.now =
    slice_get_read c.self.inside.levels.items (length c.self.inside.levels.items) c.args.level c.index-begun.result.now refl within c.index-begun.ensures in
    record {
      is =
          cancelled_watch old new (vec_capacity c.self.inside.levels) (vec_capacity c.truncate.new.self) c.args.level c.index-begun.result.now
          c.self.invariant.is there (omega (arith, c.truncate.ensures.capacity)) c.cut.ensures c.truncate.ensures.items refl;
      span =
          subst (λ t. IsSpan t c.cut-self-inside.result) (sym c.cut.ensures)
          (cut_span c.self.inside.trail c.index-begun.result.now.start c.self.inside.span c.cut-self-inside.result
          (c.self.invariant.is.begun c.args.level c.index-begun.result.now there).0 c.cut-self-inside.ensures c.self.invariant.span);
    }

pub returns-then-level-len-clause-back : goal.returns-then-level-len-clause-back
returns-then-level-len-clause-back c =
    let within : c.args.level < length c.self.inside.levels.items = omega (arith, c.len.ensures, c.self.inside.levels.ok.0) in
    let there : slice_get c.self.inside.levels.items c.args.level ≡ Some c.index-begun.result.now =
    slice_get_read c.self.inside.levels.items (length c.self.inside.levels.items) c.args.level c.index-begun.result.now refl within c.index-begun.ensures in
    let now : slice_get c.args.self.now.levels c.args.level ≡ Some c.index-begun.result.now =
    ap (λ (w : WatchState). slice_get w.levels c.args.level) (sym c.self.view_is) ∙ there in
    subst (λ o. IfSome o (HasGoneBack c.args.self.now
    (record { trail = c.cut.new.self; levels = c.truncate.new.self.items; head = c.index-begun.result.now.looked; lists = c.self.inside.lists })))
    (sym now) (record {
      trail =
          c.cut.ensures ∙ ap (λ (w : WatchState). record { vars = w.trail.vars; places = take c.index-begun.result.now.start w.trail.places }) c.self.view_is;
      head = refl;
    })
