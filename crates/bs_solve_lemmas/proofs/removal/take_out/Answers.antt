use Rattle.std.proofs.Common.{sym, subst}
use Rattle.std.specs.Prelude.{All, Contains}
use Rattle.bs_clause.specs.Range.{HasVariables}
use Rattle.bs_watch.specs.Sweep.{ArePlaced, HasServed}
use Rattle.bs_solve_lemmas.specs.declared.row.LoggedClause.{LoggedClause}
use Rattle.bs_solve_lemmas.specs.Notes.{HasKilled}
use Rattle.bs_solve_lemmas.proofs.Removals.{gone_placed, rows_placed, refs_placed, first_stay, first_out, served, watched_range}
use Rattle.bs_solve_lemmas.proofs.removal.take_out.Goals as goal

pub kill_all-requires : goal.kill_all-requires
kill_all-requires c =
    subst (All (Contains c.args.arena.now.places)) (sym c.as_slice.ensures.value)
    (gone_placed c.args.arena.now.clauses c.args.arena.now.places c.args.rows.now.items c.args.leaving.now.start c.args.leaving.now.ids
    c.args.leaving.now.clauses.items c.args.leaving.now.watched.items c.holds_clauses.ensures.placed c.requires.held c.requires.gone)

pub keep_rows-requires-clause-known : goal.keep_rows-requires-clause-known
keep_rows-requires-clause-known c =
    subst (λ places. All (λ (row : LoggedClause). Contains places row.clause) c.args.rows.now.items) (sym c.kill_all.ensures.places)
    (rows_placed c.args.arena.now.clauses c.args.arena.now.places c.args.rows.now.items c.holds_clauses.ensures.placed c.requires.held)

pub keep_rows-requires-clause-live : goal.keep_rows-requires-clause-live
keep_rows-requires-clause-live c =
    first_stay c.args.arena.now.clauses c.kill_all.new.arena.clauses c.args.rows.now.items c.args.leaving.now.start c.args.leaving.now.ids
    c.args.leaving.now.clauses.items c.args.leaving.now.watched.items c.requires.held c.requires.ascends c.requires.gone
    (subst (HasKilled c.args.arena.now.clauses c.kill_all.new.arena.clauses) c.as_slice.ensures.value c.kill_all.ensures.killed)

pub keep_refs-requires-clause-known : goal.keep_refs-requires-clause-known
keep_refs-requires-clause-known c =
    subst (λ places. All (Contains places) c.args.shorts.now.items) (sym c.kill_all.ensures.places)
    (refs_placed c.args.arena.now.clauses c.args.arena.now.places c.args.shorts.now.items c.holds_clauses.ensures.placed c.requires.short)

pub keep_refs-requires-clause-live : goal.keep_refs-requires-clause-live
keep_refs-requires-clause-live c =
    first_out c.args.arena.now.clauses c.kill_all.new.arena.clauses c.args.shorts.now.items c.args.leaving.now.clauses.items c.args.shorts_from
    c.requires.short c.requires.out
    (subst (HasKilled c.args.arena.now.clauses c.kill_all.new.arena.clauses) c.as_slice.ensures.value c.kill_all.ensures.killed)

pub sweep-requires-clause-served : goal.sweep-requires-clause-served
sweep-requires-clause-served c =
    subst (HasServed c.args.watch.now c.kill_all.new.arena) (sym c.as_slice-2.ensures.value)
    (served c.args.watch.now c.args.arena.now.clauses c.kill_all.new.arena c.args.rows.now.items c.args.leaving.now.start c.args.leaving.now.ids
    c.args.leaving.now.clauses.items c.args.leaving.now.watched.items c.requires.serves
    (subst (ArePlaced c.args.watch.now.lists) (sym c.kill_all.ensures.places) c.requires.placed) c.requires.gone
    (subst (HasKilled c.args.arena.now.clauses c.kill_all.new.arena.clauses) c.as_slice.ensures.value c.kill_all.ensures.killed))

pub sweep-requires-clause-range : goal.sweep-requires-clause-range
sweep-requires-clause-range c =
    subst (HasVariables c.args.watch.now.trail.vars) (sym c.as_slice-2.ensures.value)
    (watched_range c.args.arena.now.clauses c.args.rows.now.items c.args.leaving.now.start c.args.watch.now.trail.vars c.args.leaving.now.ids
    c.args.leaving.now.clauses.items c.args.leaving.now.watched.items c.requires.range c.requires.gone)
