use Rattle.std.proofs.Common.{reverse}
use Rattle.bs_reach.specs.Refuted.{AreRefuted}
use Rattle.bs_reach.proofs.refuted.add_lengths.Given as goal

abbrev pub invariant-lengths : goal.invariant-lengths
invariant-lengths l = AreRefuted l.encoding l.reset l.state l.k l.b l.c l.last (reverse l.log)
