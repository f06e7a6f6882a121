use Rattle.std.proofs.Common.{◌≡◌, ◌*◌, ◌≤◌, take}
use Rattle.std.specs.Prelude.{sum_by}
use Rattle.bs_call.proofs.EndingLemmas.{moments_in}
use Rattle.bs_call.proofs.ending.moments.Given as goal

abbrev pub invariant-runs : goal.invariant-runs
invariant-runs l = (l.count ≡ sum_by moments_in (take l.index l.runs.runs)) × (l.count ≤ l.index * 65537)
