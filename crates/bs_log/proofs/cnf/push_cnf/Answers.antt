use Rattle.std.proofs.Common.{arith}
use Rattle.bs_log.proofs.Rooms.{behind_small}
use Rattle.bs_log.proofs.cnf.push_cnf.Goals as goal

pub push_counted-requires : goal.push_counted-requires
push_counted-requires c =
    let small = behind_small c.args.asked.now c.requires in
    let clauses = c.requires.small.clauses in
    let assumed = c.requires.small.assumptions in
    let lines = c.requires.small.lines in
    let vars = c.requires.room in
    record {
      step = c.requires.one;
      room = c.requires.room;
      assumed = omega (arith, assumed, lines, vars);
      count = omega (arith, small, clauses);
    }
