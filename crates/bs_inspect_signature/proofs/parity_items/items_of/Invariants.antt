use Rattle.std.proofs.Common.{◌≡◌, map}
use Rattle.std.specs.Prelude.{filter}
use Rattle.std.specs.List.{range_with_len}
use Rattle.bs_inspect_signature.specs.Mixed.{is_drawn, members}
use Rattle.bs_inspect_signature.proofs.parity_items.items_of.Given as goal

abbrev pub invariant-items : goal.invariant-items
invariant-items l = l.items ≡ filter is_drawn (map (members l.width l.count) (range_with_len 0 l.item))
