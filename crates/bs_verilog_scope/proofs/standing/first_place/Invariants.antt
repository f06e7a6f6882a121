use Rattle.std.proofs.Common.{◌≡◌, ℕ, ◌<◌, false}
use Rattle.bs_verilog_scope.specs.Standing.{stands_at}
use Rattle.bs_verilog_scope.proofs.standing.first_place.Given as goal

abbrev pub invariant-places : goal.invariant-places
invariant-places l = (k : ℕ) → k < l.at → stands_at l.text l.name k ≡ false
