use Rattle.std.proofs.Common.{arith}
use Rattle.bs_net_names.proofs.SplitLemmas.{last_here}
use Rattle.bs_net_names.proofs.splits.last_split.Goals as goal

pub returns-then-text-i : goal.returns-then-text-i
returns-then-text-i c =
    last_here _ _ _ c.text.i 0 (omega (arith, c.text-test.true)) (omega (arith, c.text-test.true, c.text.invariant.within)) c.if-text-i.true
    c.text.invariant.none
