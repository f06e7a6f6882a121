use Rattle.bs_lanes.specs.Planes.{IsPadded}
use Rattle.bs_lanes.proofs.plane.padded.Given as goal

abbrev pub invariant-words : goal.invariant-words
invariant-words l = IsPadded l.words l.start l.i l.all
