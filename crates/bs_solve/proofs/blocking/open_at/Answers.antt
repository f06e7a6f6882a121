use Rattle.std.proofs.Common.{arith}
use Rattle.bs_arena.specs.Arena.{literals_at}
use Rattle.bs_solve.proofs.Blockings.{back_open, may_attach_opened, has_opened}
use Rattle.bs_solve.proofs.blocking.open_at.Goals as goal

pub cancel_to-requires : goal.cancel_to-requires
cancel_to-requires c =
    let (v, b) = back_open c.args.watch.now (literals_at c.args.arena.now.clauses c.args.r) c.args.level c.holds_levels.ensures.levels
    c.holds_levels.ensures.apart c.requires.retreat in
    let high = b.high in omega (arith, high)

pub join-requires-clause-serves : goal.join-requires-clause-serves
join-requires-clause-serves c = c.cancel_to.ensures.serves.keeps c.args.arena.now.clauses c.requires.serves

pub join-requires-clause-guarded : goal.join-requires-clause-guarded
join-requires-clause-guarded c = λ two.
    let (v, b) = back_open c.args.watch.now (literals_at c.args.arena.now.clauses c.args.r) c.args.level c.holds_levels.ensures.levels
    c.holds_levels.ensures.apart c.requires.retreat in
    may_attach_opened c.args.watch.now c.cancel_to.new.self (literals_at c.args.arena.now.clauses c.args.r) c.args.level v b c.cancel_to.ensures.back

pub returns : goal.returns
returns c =
    let (v, b) = back_open c.args.watch.now (literals_at c.args.arena.now.clauses c.args.r) c.args.level c.holds_levels.ensures.levels
    c.holds_levels.ensures.apart c.requires.retreat in
    has_opened c.args.watch.now c.cancel_to.new.self c.join.new.watch c.args.arena.now.clauses c.args.shorts.now.items c.join.new.shorts.items
    c.args.level c.args.r v (c.requires.watchable c.requires.retreat.0.long) b c.cancel_to.ensures.back c.cancel_to.ensures.levels
    c.cancel_to.ensures.lists c.in_ok-join.ensures
