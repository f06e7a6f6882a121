use Rattle.std.proofs.Common.{◌≡◌, take}
use Rattle.bs_inspect_why.specs.Stills.{used}
use Rattle.bs_inspect_why.proofs.still.used.Given as goal

abbrev pub invariant-stills : goal.invariant-stills
invariant-stills l = l.kept ≡ used l.accounts (take l.still-index l.stills)
