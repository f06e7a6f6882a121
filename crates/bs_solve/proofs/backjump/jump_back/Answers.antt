use Rattle.std.proofs.Common.{◌≤◌, length, sym, subst, arith}
use Rattle.std.specs.Prelude.{IsPermutation}
use Rattle.bs_arena.specs.Arena.{literals_at}
use Rattle.bs_watch.specs.Scene.{IsWatchable}
use Rattle.bs_watch.specs.Trail.{IsConflict}
use Rattle.bs_watch.specs.Places.{literals_of}
use Rattle.bs_watch.proofs.Gets.{get_within}
use Rattle.bs_solve.proofs.Databases.{watchable, literals_from}
use Rattle.bs_solve.proofs.Backs.{all_lost, may_attach_back}
use Rattle.bs_solve.proofs.Takings.{goes_back, first_open_back, serves_with_one, levels_assigned, places_assigned, jumps_back}
use Rattle.bs_solve.proofs.backjump.jump_back.Goals as goal

pub back_level-level-requires-clause-watchable : goal.back_level-level-requires-clause-watchable
back_level-level-requires-clause-watchable c = λ two.
    let s = c.requires.backjump.1 in
    subst (IsWatchable c.args.watch.now.trail.vars) (sym (literals_from c.add.new.self.clauses c.in_ok-r.r _ c.in_ok-r.ensures.found))
    (watchable c.args.watch.now.trail.vars c.args.lits.now s.distinct s.range
    (subst (λ x. 2 ≤ length x) (literals_from c.add.new.self.clauses c.in_ok-r.r _ c.in_ok-r.ensures.found) two))

pub back_level-level-requires-clause-lost : goal.back_level-level-requires-clause-lost
back_level-level-requires-clause-lost c =
    subst (IsConflict (literals_of c.args.watch.now.trail.places)) (sym (literals_from c.add.new.self.clauses c.in_ok-r.r _ c.in_ok-r.ensures.found))
    (all_lost c.requires.backjump.0 c.args.watch.now c.args.lits.now c.requires.backjump.1)

pub cancel_to-requires : goal.cancel_to-requires
cancel_to-requires c =
    let after = c.back_level-level.new.arena.clauses in
    let same = subst (λ x. IsPermutation x (literals_at after c.in_ok-r.r))
    (literals_from c.add.new.self.clauses c.in_ok-r.r _ c.in_ok-r.ensures.found) c.back_level-level.ensures.same in
    let g = goes_back c.requires.backjump.0 c.args.watch.now c.args.lits.now (literals_at after c.in_ok-r.r) c.back_level-level.result c.requires.backjump.1
    c.holds_levels.ensures.levels c.holds_levels.ensures.apart same c.back_level-level.ensures.level c.back_level-level.ensures.watchable in
    let high = g.1.high in
    omega (arith, high)

pub literal_in-requires-clause-at : goal.literal_in-requires-clause-at
literal_in-requires-clause-at c =
    let after = c.back_level-level.new.arena.clauses in
    let same = subst (λ x. IsPermutation x (literals_at after c.in_ok-r.r))
    (literals_from c.add.new.self.clauses c.in_ok-r.r _ c.in_ok-r.ensures.found) c.back_level-level.ensures.same in
    let g = goes_back c.requires.backjump.0 c.args.watch.now c.args.lits.now (literals_at after c.in_ok-r.r) c.back_level-level.result c.requires.backjump.1
    c.holds_levels.ensures.levels c.holds_levels.ensures.apart same c.back_level-level.ensures.level c.back_level-level.ensures.watchable in
    get_within (literals_at after c.in_ok-r.r) 0 _ g.1.first

pub assign-requires : goal.assign-requires
assign-requires c =
    let after = c.back_level-level.new.arena.clauses in
    let same = subst (λ x. IsPermutation x (literals_at after c.in_ok-r.r))
    (literals_from c.add.new.self.clauses c.in_ok-r.r _ c.in_ok-r.ensures.found) c.back_level-level.ensures.same in
    let g = goes_back c.requires.backjump.0 c.args.watch.now c.args.lits.now (literals_at after c.in_ok-r.r) c.back_level-level.result c.requires.backjump.1
    c.holds_levels.ensures.levels c.holds_levels.ensures.apart same c.back_level-level.ensures.level c.back_level-level.ensures.watchable in
    first_open_back c.requires.backjump.0 c.args.watch.now c.cancel_to.new.self c.args.lits.now (literals_at after c.in_ok-r.r) c.back_level-level.result g.0
    c.literal_in.result c.requires.backjump.1 g.1 c.cancel_to.ensures.back c.literal_in.ensures

pub join-requires-clause-serves : goal.join-requires-clause-serves
join-requires-clause-serves c =
    let after = c.back_level-level.new.arena.clauses in
    c.assign.ensures.serves.keeps after (c.cancel_to.ensures.serves.keeps after
    (serves_with_one c.args.watch.now c.args.arena.now.clauses c.add.new.self.clauses after c.in_ok-r.r c.requires.serves c.in_ok-r.ensures.keeps
    c.in_ok-r.ensures.fresh c.back_level-level.ensures.others))

pub join-requires-clause-guarded : goal.join-requires-clause-guarded
join-requires-clause-guarded c = λ two.
    let after = c.back_level-level.new.arena.clauses in
    let same = subst (λ x. IsPermutation x (literals_at after c.in_ok-r.r))
    (literals_from c.add.new.self.clauses c.in_ok-r.r _ c.in_ok-r.ensures.found) c.back_level-level.ensures.same in
    let g = goes_back c.requires.backjump.0 c.args.watch.now c.args.lits.now (literals_at after c.in_ok-r.r) c.back_level-level.result c.requires.backjump.1
    c.holds_levels.ensures.levels c.holds_levels.ensures.apart same c.back_level-level.ensures.level c.back_level-level.ensures.watchable in
    may_attach_back c.args.watch.now c.assign.new.self c.args.lits.now (literals_at after c.in_ok-r.r) _ c.back_level-level.result c.in_ok-r.r g.0 g.1
    (c.back_level-level.ensures.watchable two) c.holds_levels-2.ensures.levels c.holds_levels-2.ensures.apart
    (levels_assigned c.args.watch.now c.cancel_to.new.self c.assign.new.self c.back_level-level.result c.in_ok-r.r c.literal_in.result
    c.cancel_to.ensures.levels c.assign.ensures.new)
    (places_assigned c.requires.backjump.0 c.args.watch.now c.cancel_to.new.self c.assign.new.self c.args.lits.now (literals_at after c.in_ok-r.r)
    c.back_level-level.result c.in_ok-r.r g.0 c.literal_in.result c.requires.backjump.1 g.1 c.cancel_to.ensures.back c.literal_in.ensures
    c.cancel_to.ensures.levels c.assign.ensures.new)

pub returns : goal.returns
returns c =
    let after = c.back_level-level.new.arena.clauses in
    let same = subst (λ x. IsPermutation x (literals_at after c.in_ok-r.r))
    (literals_from c.add.new.self.clauses c.in_ok-r.r _ c.in_ok-r.ensures.found) c.back_level-level.ensures.same in
    let g = goes_back c.requires.backjump.0 c.args.watch.now c.args.lits.now (literals_at after c.in_ok-r.r) c.back_level-level.result c.requires.backjump.1
    c.holds_levels.ensures.levels c.holds_levels.ensures.apart same c.back_level-level.ensures.level c.back_level-level.ensures.watchable in
    jumps_back c.requires.backjump.0 c.args.watch.now c.cancel_to.new.self c.assign.new.self c.join.new.watch c.args.arena.now.clauses c.add.new.self.clauses
    after c.args.database.now _ c.args.id c.in_ok-r.r c.back_level-level.result g.0 c.args.lits.now c.literal_in.result
    c.requires.backjump.1 g.1 c.in_ok-r.ensures.clauses c.in_ok-r.ensures.fresh c.in_ok-r.ensures.found c.back_level-level.ensures.others
    c.back_level-level.ensures.live c.back_level-level.ensures.id same c.cancel_to.ensures.levels c.cancel_to.ensures.lists c.cancel_to.ensures.back
    c.literal_in.ensures c.assign.ensures.new c.in_ok-join.ensures c.in_ok-note.ensures
