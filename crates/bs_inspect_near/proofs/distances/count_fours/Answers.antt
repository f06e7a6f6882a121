use Rattle.std.proofs.Common.{arith}
use Rattle.bs_inspect_near.proofs.CountLemmas.{fours_more}
use Rattle.bs_inspect_near.proofs.distances.count_fours.Goals as goal

pub fours-preserved : goal.fours-preserved
fours-preserved c =
    fours_more c.args.planes.now c.args.wide c.args.word c.args.seen.now c.fours.k c.others_at-a.result c.others_at-b.result c.others_at-c.result
    c.others_at-d.result c.fours.digits.items c.add_four.new.digits.items (omega (arith, c.fours-test.true, c.len-fours.ensures)) c.requires.few
    c.others_at-a.ensures c.others_at-b.ensures c.others_at-c.ensures c.others_at-d.ensures c.add_four.ensures c.fours.invariant
