use Rattle.std.proofs.Common.{◌≡◌, take}
use Rattle.bs_inspect_why.specs.Stills.{shown}
use Rattle.bs_inspect_why.proofs.still.shown.Given as goal

abbrev pub invariant-facts : goal.invariant-facts
invariant-facts l = l.told ≡ shown l.stills (take l.fact-index l.facts)
