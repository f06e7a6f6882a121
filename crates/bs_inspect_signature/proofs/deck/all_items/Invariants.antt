use Rattle.std.proofs.Common.{◌≡◌}
use Rattle.std.specs.List.{range_with_len}
use Rattle.bs_inspect_signature.proofs.deck.all_items.Given as goal

abbrev pub invariant-items : goal.invariant-items
invariant-items l = l.items.items ≡ range_with_len 0 l.item
