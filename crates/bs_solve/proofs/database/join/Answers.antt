use Rattle.std.proofs.Common.{arith}
use Rattle.bs_solve.proofs.Databases.{joined_long}
use Rattle.bs_solve.proofs.database.join.Goals as goal

pub returns : goal.returns
returns c =
    joined_long c.args.watch.now c.attach.new.self c.args.arena.now.clauses c.args.shorts.now.items c.args.r c.in_ok-attach.ensures.ok
    (let n = c.clause_len.ensures in let two = c.if-clause_len-lt2.false in omega (arith, n, two))
