use Rattle.std.proofs.Common.{◌≡◌, ◌<◌, ℕ, false, get_or}
use Rattle.bs_lanes.specs.Planes.{lane}
use Rattle.bs_scan.specs.Signature.{signature}
use Rattle.bs_chip.proofs.alike.shows_signature.Given as goal

abbrev pub invariant-items : goal.invariant-items
invariant-items l = (k : ℕ) → k < l.i → get_or (signature l.choice (lane l.wide l.choice.width l.planes l.lane)) k false ≡ get_or l.stored k false
