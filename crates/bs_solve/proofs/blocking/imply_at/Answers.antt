use Rattle.std.proofs.Common.{arith}
use Rattle.bs_arena.specs.Arena.{literals_at}
use Rattle.bs_solve.proofs.Backs.{may_attach_back}
use Rattle.bs_solve.proofs.Blockings.{back_implied, first_is_open, places_implied, has_implied}
use Rattle.bs_solve.proofs.Takings.{levels_assigned}
use Rattle.bs_solve.proofs.blocking.imply_at.Goals as goal

pub cancel_to-requires : goal.cancel_to-requires
cancel_to-requires c =
    let (v, b) = back_implied c.args.watch.now (literals_at c.args.arena.now.clauses c.args.r) c.args.level c.holds_levels.ensures.levels
    c.holds_levels.ensures.apart (c.requires.watchable c.requires.retreat.0.long) c.requires.retreat in
    let high = b.high in omega (arith, high)

pub literal_in-requires-clause-at : goal.literal_in-requires-clause-at
literal_in-requires-clause-at c = let two = c.requires.retreat.0.long in omega (arith, two)

pub assign-requires : goal.assign-requires
assign-requires c =
    let can = c.requires.watchable c.requires.retreat.0.long in
    let (v, b) = back_implied c.args.watch.now (literals_at c.args.arena.now.clauses c.args.r) c.args.level c.holds_levels.ensures.levels
    c.holds_levels.ensures.apart can c.requires.retreat in
    first_is_open c.args.watch.now c.cancel_to.new.self (literals_at c.args.arena.now.clauses c.args.r) c.requires.retreat.0.first c.literal_in.result
    c.args.level v can b c.cancel_to.ensures.back c.literal_in.ensures

pub join-requires-clause-serves : goal.join-requires-clause-serves
join-requires-clause-serves c =
    c.assign.ensures.serves.keeps c.args.arena.now.clauses (c.cancel_to.ensures.serves.keeps c.args.arena.now.clauses c.requires.serves)

pub join-requires-clause-guarded : goal.join-requires-clause-guarded
join-requires-clause-guarded c = λ two.
    let can = c.requires.watchable c.requires.retreat.0.long in
    let (v, b) = back_implied c.args.watch.now (literals_at c.args.arena.now.clauses c.args.r) c.args.level c.holds_levels.ensures.levels
    c.holds_levels.ensures.apart can c.requires.retreat in
    may_attach_back c.args.watch.now c.assign.new.self (literals_at c.args.arena.now.clauses c.args.r) (literals_at c.args.arena.now.clauses c.args.r)
    c.requires.retreat.0.first c.args.level c.args.r v b can c.holds_levels-2.ensures.levels c.holds_levels-2.ensures.apart
    (levels_assigned c.args.watch.now c.cancel_to.new.self c.assign.new.self c.args.level c.args.r c.literal_in.result c.cancel_to.ensures.levels
    c.assign.ensures.new)
    (places_implied c.args.watch.now c.cancel_to.new.self c.assign.new.self (literals_at c.args.arena.now.clauses c.args.r) c.requires.retreat.0.first
    c.literal_in.result c.args.level c.args.r v b c.cancel_to.ensures.back c.literal_in.ensures c.cancel_to.ensures.levels c.assign.ensures.new)

pub returns : goal.returns
returns c =
    let can = c.requires.watchable c.requires.retreat.0.long in
    let (v, b) = back_implied c.args.watch.now (literals_at c.args.arena.now.clauses c.args.r) c.args.level c.holds_levels.ensures.levels
    c.holds_levels.ensures.apart can c.requires.retreat in
    has_implied c.args.watch.now c.cancel_to.new.self c.assign.new.self c.join.new.watch c.args.arena.now.clauses c.args.shorts.now.items
    c.join.new.shorts.items c.requires.retreat.0.first c.literal_in.result c.args.level c.args.r v c.requires.retreat.0.long c.requires.retreat.0.lost b
    c.cancel_to.ensures.back c.literal_in.ensures c.cancel_to.ensures.levels c.cancel_to.ensures.lists c.assign.ensures.new c.in_ok-join.ensures
