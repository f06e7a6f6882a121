use Rattle.std.proofs.Common.{◌≡◌, map, take}
use Rattle.bs_net_names.specs.Keys.{parts_in}
use Rattle.bs_inspect_seen.specs.Given.{numbers_of}
use Rattle.bs_inspect_seen.proofs.numbers.numbers_of.Given as goal

abbrev pub invariant-nets : goal.invariant-nets
invariant-nets l = l.numbers.items ≡ numbers_of (map parts_in (take l.i l.nets)) l.name
