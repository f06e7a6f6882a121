use Rattle.std.proofs.Common.{ℕ, ◌<◌, slice_index_or}
use Rattle.bs_net.specs.Circuit.{IsSettled}
use Rattle.bs_net.specs.Order.{no_gate}
use Rattle.bs_sim.proofs.schedule.quietness.Given as goal

abbrev pub invariant-loop-i : goal.invariant-loop-i
invariant-loop-i l = (k : ℕ) → k < l.i → IsSettled l.values (slice_index_or l.gates k no_gate)
