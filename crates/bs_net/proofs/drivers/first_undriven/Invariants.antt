use Rattle.std.proofs.Common.{◌≡◌, ◌<◌, ℕ, false}
use Rattle.bs_net.specs.Tallies.{undriven_at}
use Rattle.bs_net.proofs.drivers.first_undriven.Given as goal

abbrev pub invariant-loop-net : goal.invariant-loop-net
invariant-loop-net l = (k : ℕ) → k < l.net → undriven_at l.readers l.drivers k ≡ false
