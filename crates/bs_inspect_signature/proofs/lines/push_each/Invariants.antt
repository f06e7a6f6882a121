use Rattle.std.proofs.Common.{◌≡◌, ◌++◌, take}
use Rattle.std.specs.List.{flat_map}
use Rattle.bs_inspect_signature.specs.Lines.{list_line}
use Rattle.bs_inspect_signature.proofs.lines.push_each.Given as goal

abbrev pub invariant-lists : goal.invariant-lists
invariant-lists l = l.text.items ≡ l.initial.text.items ++ flat_map list_line (take l.i l.all)
