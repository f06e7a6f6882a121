use Rattle.std.proofs.Common.{◌≡◌, false, take}
use Rattle.std.specs.List.{list_any}
use Rattle.bs_inspect_why.specs.Stills.{covers}
use Rattle.bs_inspect_why.proofs.still.is_covered.Given as goal

abbrev pub invariant-stills : goal.invariant-stills
invariant-stills l = list_any (covers l.fact) (take l.still-index l.stills) ≡ false
