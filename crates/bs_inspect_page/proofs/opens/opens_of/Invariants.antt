use Rattle.std.proofs.Common.{◌≡◌, map}
use Rattle.std.specs.List.{range_with_len}
use Rattle.bs_inspect_page.specs.Opens.{open_of, step_of}
use Rattle.bs_inspect_page.proofs.opens.opens_of.Given as goal

abbrev pub invariant-states : goal.invariant-states
invariant-states l = l.opens ≡ map (λ i. open_of (step_of l.report i)) (range_with_len 0 l.i)
