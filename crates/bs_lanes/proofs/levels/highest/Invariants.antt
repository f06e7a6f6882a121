use Rattle.std.proofs.Common.{◌≡◌, drop, max}
use Rattle.bs_lanes.specs.Levels.{highest}
use Rattle.bs_lanes.proofs.levels.highest.Given as goal

abbrev pub invariant-ins : goal.invariant-ins
invariant-ins l = max l.top (highest l.levels (drop l.i l.ins)) ≡ highest l.levels l.ins
