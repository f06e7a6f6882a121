use Rattle.std.proofs.Common.{arith}
use Rattle.bs_lanes.proofs.PairLemmas.{no_pair_of_one}
use Rattle.bs_lanes.proofs.pairs.settle_pairs.Goals as goal

pub returns-in-Buf : goal.returns-in-Buf
returns-in-Buf g c =
    absurd
    (no_pair_of_one g.row.N c.args.nets.now c.args.kind c.args.start c.args.pairs.now (omega (arith, c.if-pairs-eq0.false)) c.requires.placed c.in-Buf.is)
