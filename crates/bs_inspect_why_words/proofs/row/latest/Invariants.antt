use Rattle.std.proofs.Common.{◌≡◌, take}
use Rattle.bs_inspect_why_words.specs.Rows.{latest}
use Rattle.bs_inspect_why_words.proofs.row.latest.Given as goal

abbrev pub invariant-places : goal.invariant-places
invariant-places l = l.cycle ≡ latest l.ages (take l.place-index l.places)
