use Rattle.std.proofs.Common.{◌≡◌, drop}
use Rattle.bs_flat_nets.specs.Rows.{are_apart}
use Rattle.bs_flat_nets.proofs.rows.are_apart.Given as goal

abbrev pub invariant-runs : goal.invariant-runs
invariant-runs l = are_apart l.next (drop l.run-index l.runs) ≡ are_apart 0 l.runs
