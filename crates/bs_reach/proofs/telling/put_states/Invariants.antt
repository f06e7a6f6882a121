use Rattle.std.proofs.Common.{◌≡◌, map}
use Rattle.std.specs.List.{range_with_len}
use Rattle.bs_solve_lemmas.specs.Values.{value_of}
use Rattle.bs_encode.specs.Cycle.{bits_on}
use Rattle.bs_reach_unrolled.specs.Unrolled.{states_at}
use Rattle.bs_reach.proofs.telling.put_states.Given as goal

abbrev pub invariant-frames : goal.invariant-frames
invariant-frames l = l.states ≡ map (λ i. bits_on (value_of l.values) (states_at l.encoding i)) (range_with_len 0 l.i)
