use Rattle.std.proofs.Common.{sym, subst, ◌∙◌, arith}
use Rattle.std.proofs.lemmas.List.Sorted.{IsPermutation-trans}
use Rattle.bs_arena.specs.Arena.{literals_at}
use Rattle.bs_watch.specs.Scene.{IsWatchable}
use Rattle.bs_watch.specs.Choice.{AreHighest}
use Rattle.bs_watch.specs.Watch.{WatchState}
use Rattle.bs_watch.proofs.Choices.{lifted_permuted, lifted_watchable, chosen}
use Rattle.bs_watch.proofs.Advancing.{room_trans}
use Rattle.bs_watch.proofs.watch.Watch.choose_watches.Goals as goal

pub lift-requires-2-clause-range : goal.lift-requires-2-clause-range
lift-requires-2-clause-range c =
    (lifted_watchable c.self.inside.trail.vars c.self.inside.trail.places (literals_at c.args.arena.now.clauses c.args.r)
    (literals_at c.lift.new.arena.clauses c.args.r) 0 (omega (arith, c.requires.watchable.long)) c.lift.ensures.lifted
    (subst (λ (w : WatchState). IsWatchable w.trail.vars (literals_at c.args.arena.now.clauses c.args.r)) (sym c.self.view_is) c.requires.watchable)).range

pub returns-clause-watchable : goal.returns-clause-watchable
returns-clause-watchable c =
    let old = literals_at c.args.arena.now.clauses c.args.r in
    let middle = literals_at c.lift.new.arena.clauses c.args.r in
    let new = literals_at c.lift-2.new.arena.clauses c.args.r in
    let before : IsWatchable c.args.self.now.trail.vars (literals_at c.lift.new.arena.clauses c.args.r) =
    lifted_watchable c.args.self.now.trail.vars c.self.inside.trail.places (literals_at c.args.arena.now.clauses c.args.r)
    (literals_at c.lift.new.arena.clauses c.args.r) 0 (omega (arith, c.requires.watchable.long)) c.lift.ensures.lifted c.requires.watchable in
    lifted_watchable c.args.self.now.trail.vars c.self.inside.trail.places (literals_at c.lift.new.arena.clauses c.args.r)
    (literals_at c.lift-2.new.arena.clauses c.args.r) 1 (omega (arith, before.long)) c.lift-2.ensures.lifted before

pub returns-clause-same : goal.returns-clause-same
returns-clause-same c =
    let before : IsWatchable c.args.self.now.trail.vars (literals_at c.lift.new.arena.clauses c.args.r) =
    lifted_watchable c.args.self.now.trail.vars c.self.inside.trail.places (literals_at c.args.arena.now.clauses c.args.r)
    (literals_at c.lift.new.arena.clauses c.args.r) 0 (omega (arith, c.requires.watchable.long)) c.lift.ensures.lifted c.requires.watchable in
    IsPermutation-trans (literals_at c.args.arena.now.clauses c.args.r) (literals_at c.lift.new.arena.clauses c.args.r)
    (literals_at c.lift-2.new.arena.clauses c.args.r)
    (lifted_permuted c.self.inside.trail.places (literals_at c.args.arena.now.clauses c.args.r) (literals_at c.lift.new.arena.clauses c.args.r) 0
    (omega (arith, c.requires.watchable.long)) c.lift.ensures.lifted)
    (lifted_permuted c.self.inside.trail.places (literals_at c.lift.new.arena.clauses c.args.r) (literals_at c.lift-2.new.arena.clauses c.args.r) 1
    (omega (arith, before.long)) c.lift-2.ensures.lifted)

pub returns-clause-highest : goal.returns-clause-highest
returns-clause-highest c =
    subst (λ (w : WatchState). AreHighest w.trail.places (literals_at c.lift-2.new.arena.clauses c.args.r)) c.self.view_is
    (chosen c.self.inside.trail.places (literals_at c.args.arena.now.clauses c.args.r) (literals_at c.lift.new.arena.clauses c.args.r)
    (literals_at c.lift-2.new.arena.clauses c.args.r) c.requires.watchable.long c.lift.ensures.lifted c.lift-2.ensures.lifted)

pub returns-clause-room : goal.returns-clause-room
returns-clause-room c = room_trans c.args.arena.now c.lift.new.arena c.lift-2.new.arena c.lift.ensures.room c.lift-2.ensures.room

pub returns-clause-id : goal.returns-clause-id
returns-clause-id c = c.lift-2.ensures.id ∙ c.lift.ensures.id
