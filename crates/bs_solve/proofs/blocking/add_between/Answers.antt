use Rattle.std.proofs.Common.{◌≤◌, length, sym, subst}
use Rattle.std.specs.Prelude.{IsPermutation}
use Rattle.bs_arena.specs.Arena.{literals_at}
use Rattle.bs_watch.specs.Scene.{IsWatchable}
use Rattle.bs_solve.proofs.Databases.{watchable, literals_from}
use Rattle.bs_solve.proofs.Takings.{serves_with_one}
use Rattle.bs_solve.proofs.Blockings.{kept_serves, grounded_permuted, has_come, held_back}
use Rattle.bs_solve.proofs.blocking.add_between.Goals as goal

pub retreat_of-retreat-requires-clause-watchable : goal.retreat_of-retreat-requires-clause-watchable
retreat_of-retreat-requires-clause-watchable c = λ two.
    subst (IsWatchable c.args.watch.now.trail.vars) (sym (literals_from c.add.new.self.clauses c.in_ok-r.r _ c.in_ok-r.ensures.found))
    (watchable c.args.watch.now.trail.vars c.args.lits.now c.requires.distinct c.requires.range
    (subst (λ x. 2 ≤ length x) (literals_from c.add.new.self.clauses c.in_ok-r.r _ c.in_ok-r.ensures.found) two))

pub join_back-requires-clause-serves : goal.join_back-requires-clause-serves
join_back-requires-clause-serves c =
    serves_with_one c.args.watch.now c.args.arena.now.clauses c.add.new.self.clauses c.retreat_of-retreat.new.arena.clauses c.in_ok-r.r
    (kept_serves c.requires.kept.0 c.args.watch.now c.args.arena.now.clauses c.args.database.now c.requires.kept.1) c.in_ok-r.ensures.keeps
    c.in_ok-r.ensures.fresh c.retreat_of-retreat.ensures.others

pub join_back-requires-clause-ground : goal.join_back-requires-clause-ground
join_back-requires-clause-ground c =
    grounded_permuted c.args.watch.now c.args.lits.now (literals_at c.retreat_of-retreat.new.arena.clauses c.in_ok-r.r)
    (subst (λ x. IsPermutation x (literals_at c.retreat_of-retreat.new.arena.clauses c.in_ok-r.r))
    (literals_from c.add.new.self.clauses c.in_ok-r.r _ c.in_ok-r.ensures.found) c.retreat_of-retreat.ensures.same) c.requires.ground

pub returns : goal.returns
returns c =
    held_back c.retreat_of-retreat.result c.args.watch.now c.join_back.new.watch c.args.arena.now.clauses c.retreat_of-retreat.new.arena.clauses
    c.args.database.now _ c.args.id c.in_ok-r.r c.args.lits.now c.in_ok-join_back.ensures
    (has_come c.args.arena.now.clauses c.add.new.self.clauses c.retreat_of-retreat.new.arena.clauses c.in_ok-r.r c.args.id c.args.lits.now
    c.in_ok-r.ensures.clauses c.in_ok-r.ensures.fresh c.in_ok-r.ensures.found c.retreat_of-retreat.ensures.others c.retreat_of-retreat.ensures.live
    c.retreat_of-retreat.ensures.id c.retreat_of-retreat.ensures.same) c.in_ok-note.ensures
