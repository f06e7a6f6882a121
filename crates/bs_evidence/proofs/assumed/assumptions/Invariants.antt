use Rattle.std.proofs.Common.{◌≡◌, take, map}
use Rattle.bs_encode.specs.Assuming.{steps_from}
use Rattle.bs_report.specs.Chain.{present_of}
use Rattle.bs_evidence.proofs.assumed.assumptions.Given as goal

abbrev pub invariant-steps : goal.invariant-steps
invariant-steps l = l.all ≡ steps_from l.encoding 1 (map present_of (take l.i l.steps))
