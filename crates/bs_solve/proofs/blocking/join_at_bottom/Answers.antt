use Rattle.bs_arena.specs.Arena.{literals_at}
use Rattle.bs_solve.proofs.Databases.{may_attach_off}
use Rattle.bs_solve.proofs.Blockings.{emptied, has_emptied}
use Rattle.bs_solve.proofs.blocking.join_at_bottom.Goals as goal

pub join-requires-clause-serves : goal.join-requires-clause-serves
join-requires-clause-serves c = c.cancel_to.ensures.serves.keeps c.args.arena.now.clauses c.requires.serves

pub join-requires-clause-guarded : goal.join-requires-clause-guarded
join-requires-clause-guarded c = λ two.
    let e = emptied c.args.watch.now c.cancel_to.new.self (literals_at c.args.arena.now.clauses c.args.r) c.requires.ground c.cancel_to.ensures.back
    c.cancel_to.ensures.same in
    may_attach_off c.cancel_to.new.self (literals_at c.args.arena.now.clauses c.args.r) e.0

pub returns : goal.returns
returns c =
    has_emptied c.args.watch.now c.cancel_to.new.self c.join.new.watch c.args.arena.now.clauses c.args.shorts.now.items c.join.new.shorts.items c.args.r
    c.requires.ground c.cancel_to.ensures.levels c.cancel_to.ensures.lists c.cancel_to.ensures.back c.cancel_to.ensures.same c.in_ok-join.ensures
