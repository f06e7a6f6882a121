use Rattle.std.proofs.Common.{◌≡◌, ◌<◌, ◌+◌, ◌*◌, length, refl, ap, sym, subst, ◌∙◌}
use Rattle.bs_clause.specs.Literal.{Literal, code_of}
use Rattle.bs_watch.specs.Watch.{WatchState}
use Rattle.bs_watch.specs.Sweep.{HasServed, HasSwept}
use Rattle.bs_watch.proofs.Codes.{range_at, code_within}
use Rattle.bs_watch.proofs.Looks.{all_from_gets}
use Rattle.bs_watch.proofs.Sweeps.{swept}
use Rattle.bs_watch.proofs.watch.Watch.sweep.Goals as goal

pub sweep_lists-requires-clause-codes : goal.sweep_lists-requires-clause-codes
sweep_lists-requires-clause-codes c =
    let rows : length c.self.inside.lists ≡ 2 * c.args.self.now.trail.vars + 2 =
    ap (λ (w : WatchState). length w.lists) c.self.view_is ∙ c.requires.served.serves.listed.rows in
    all_from_gets (λ (l : Literal). code_of l < length c.self.inside.lists) c.args.literals.now (λ k l e.
    code_within c.args.self.now.trail.vars (length c.self.inside.lists) l
    (range_at c.args.self.now.trail.vars c.args.literals.now k l c.requires.range e).1 rows)

pub sweep_lists-requires-clause-placed : goal.sweep_lists-requires-clause-placed
sweep_lists-requires-clause-placed c = (subst (λ w. HasServed w c.args.arena.now c.args.literals.now) (sym c.self.view_is) c.requires.served).placed

pub returns : goal.returns
returns c =
    let old : WatchState =
    record { trail = c.self.inside.trail; levels = c.self.inside.levels.items; head = c.self.inside.head; lists = c.self.inside.lists } in
    let new : WatchState =
    record { trail = c.self.inside.trail; levels = c.self.inside.levels.items; head = c.self.inside.head; lists = c.sweep_lists.new.lists } in
    subst (λ w. HasSwept w new c.args.arena.now.clauses) c.self.view_is
    (swept old new c.args.arena.now c.args.literals.now (subst (λ w. HasServed w c.args.arena.now c.args.literals.now) (sym c.self.view_is) c.requires.served)
    c.sweep_lists.ensures.thins c.sweep_lists.ensures.live refl refl refl)
