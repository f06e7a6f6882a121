use Rattle.std.proofs.Common.{arith}
use Rattle.bs_log.proofs.Rooms.{end_for, last_for}
use Rattle.bs_log.proofs.lrat.push_lrat.Goals as goal

pub frame-f-requires : goal.frame-f-requires
frame-f-requires c =
    let clauses = c.requires.asked.small.clauses in
    let assumed = c.requires.asked.small.assumptions in
    let lines = c.requires.asked.small.lines in
    let vars = c.requires.asked.room in
    record { step = c.requires.asked.one; assumed = omega (arith, assumed, lines, vars); count = omega (arith, clauses, assumed, lines) }

pub push_ending-requires-clause-id : goal.push_ending-requires-clause-id
push_ending-requires-clause-id c = end_for c.args.asked.now c.requires c.frame-f.result c.frame-f.ensures

pub push_ending-requires-clause-last : goal.push_ending-requires-clause-last
push_ending-requires-clause-last c = last_for c.args.asked.now c.requires c.frame-f.result c.frame-f.ensures c.in_ok-last.last c.in_ok-last.ensures.last
