use Rattle.std.proofs.Common.{◌≡◌}
use Rattle.bs_inspect_why.specs.Stills.{stills_of}
use Rattle.bs_inspect_why.proofs.still.stills_by.Given as goal

abbrev pub invariant-facts : goal.invariant-facts
invariant-facts l = l.stills.items ≡ stills_of l.cycles l.facts l.ages l.i
