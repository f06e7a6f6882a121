use Rattle.std.proofs.Common.{◌≤◌, length, sym, subst}
use Rattle.bs_watch.specs.Scene.{IsWatchable}
use Rattle.bs_watch.specs.Watch.{MayAttach}
use Rattle.bs_watch.proofs.CallerLemmas.{serves_more}
use Rattle.bs_solve.proofs.Databases.{watchable, literals_from, added_held, words_added, may_attach_off}
use Rattle.bs_solve.proofs.database.add_clause.Goals as goal

pub join-requires-clause-serves : goal.join-requires-clause-serves
join-requires-clause-serves c =
    serves_more c.args.watch.now c.args.arena.now.clauses c.add.new.self.clauses c.requires.serves c.in_ok-r.ensures.keeps

pub join-requires-clause-watchable : goal.join-requires-clause-watchable
join-requires-clause-watchable c = λ two.
    subst (IsWatchable c.args.watch.now.trail.vars) (sym (literals_from c.add.new.self.clauses c.in_ok-r.r _ c.in_ok-r.ensures.found))
    (watchable c.args.watch.now.trail.vars c.args.lits.now c.requires.distinct c.requires.range
    (subst (λ x. 2 ≤ length x) (literals_from c.add.new.self.clauses c.in_ok-r.r _ c.in_ok-r.ensures.found) two))

pub returns-clause-holds_entries : goal.returns-clause-holds_entries
returns-clause-holds_entries c =
    added_held c.args.watch.now c.join.new.watch c.args.arena.now.clauses c.add.new.self.clauses c.args.database.now _
    c.in_ok-r.r (record { id = c.args.id; origin = c.args.origin; literals = c.args.lits.now }) c.in_ok-r.ensures.clauses c.in_ok-r.ensures.fresh
    c.in_ok-r.ensures.found c.in_ok-join.ensures c.in_ok-note.ensures

pub returns-clause-words : goal.returns-clause-words
returns-clause-words c =
    words_added c.args.arena.now.words c.add.new.self.words c.args.arena.now.clauses c.add.new.self.clauses c.in_ok-r.r c.args.id c.args.lits.now
    c.in_ok-r.ensures.clauses c.in_ok-r.ensures.words

pub join-requires-clause-guarded : goal.join-requires-clause-guarded
join-requires-clause-guarded c = λ two.
    let is = literals_from c.add.new.self.clauses c.in_ok-r.r _ c.in_ok-r.ensures.found in
    subst (MayAttach c.args.watch.now) (sym is) (may_attach_off c.args.watch.now c.args.lits.now (c.requires.off (subst (λ x. 2 ≤ length x) is two)))
