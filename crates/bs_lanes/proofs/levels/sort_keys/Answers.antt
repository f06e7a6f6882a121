use Rattle.std.proofs.lemmas.List.Sorted.{IsNonDecreasingBy-from_sort}
use Rattle.bs_lanes.proofs.levels.sort_keys.Goals as goal

pub returns : goal.returns
returns c =
    record {
      moved = c.sort_unstable.ensures.permutation;
      sorted = IsNonDecreasingBy-from_sort
          (λ x. x) c.sort_unstable.new.self c.sort_unstable.ensures.sorted;
    }
