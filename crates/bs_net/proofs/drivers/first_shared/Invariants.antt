use Rattle.std.proofs.Common.{◌≡◌, ◌<◌, ℕ, false}
use Rattle.bs_net.specs.Tallies.{often_at}
use Rattle.bs_net.proofs.drivers.first_shared.Given as goal

abbrev pub invariant-loop-net : goal.invariant-loop-net
invariant-loop-net l = (k : ℕ) → k < l.net → often_at l.drivers k ≡ false
