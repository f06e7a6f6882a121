-- The order of candidates.
use Rattle.std.specs.Prelude.{List}
use Rattle.std.specs.List.Sorted.{IsPermutation, IsSortedBy}
use Rattle.std.specs.Ordering.{is_lt}
use Rattle.bs_bits.specs.Bits.{bits_cmp}
use Rattle.bs_report.specs.declared.report.Cand.{Cand}

-- the same candidates, and none with a smaller state than the one before
pub record IsInOrder (found cands : List Cand) : Type 0 where
  pub same : IsPermutation found cands
  pub ascends : IsSortedBy (λ a b. is_lt (bits_cmp a.state b.state)) cands
