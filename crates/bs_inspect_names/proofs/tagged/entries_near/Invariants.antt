use Rattle.std.proofs.Common.{◌≡◌, filter, map, take}
use Rattle.bs_inspect_names.specs.Mapping.{entry_in}
use Rattle.bs_inspect_names.specs.Tagged.{is_near_line}
use Rattle.bs_inspect_names.proofs.tagged.entries_near.Given as goal

abbrev pub invariant-entries : goal.invariant-entries
invariant-entries l = map entry_in l.found.items ≡ filter (is_near_line l.own l.whole) (map entry_in (take l.i l.entries))
