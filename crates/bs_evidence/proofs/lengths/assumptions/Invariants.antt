use Rattle.std.proofs.Common.{◌≡◌, map}
use Rattle.std.specs.List.{range_with_len}
use Rattle.bs_reach_unrolled.specs.Unrolled.{length_assumes}
use Rattle.bs_evidence.proofs.lengths.assumptions.Given as goal

abbrev pub invariant-lengths : goal.invariant-lengths
invariant-lengths l = l.all ≡ map (length_assumes l.encoding l.k l.state) (range_with_len 1 l.c)
