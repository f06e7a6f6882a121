use Rattle.std.proofs.Common.{◌≡◌}
use Rattle.std.specs.List.{range_with_len}
use Rattle.bs_encode.specs.Encoded.{literals}
use Rattle.bs_encode.proofs.encoding.literals_from.Given as goal

abbrev pub invariant-loop-i : goal.invariant-loop-i
invariant-loop-i l = l.all ≡ literals (range_with_len l.first l.i)
