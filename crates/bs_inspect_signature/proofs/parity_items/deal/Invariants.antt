use Rattle.std.proofs.Common.{◌≡◌, ◌≤◌, length, map}
use Rattle.std.specs.List.{range_with_len}
use Rattle.bs_inspect_signature.specs.Deck.{deck_before, deck_in, hand_of}
use Rattle.bs_inspect_signature.proofs.parity_items.deal.Given as goal

abbrev pub invariant-flops : goal.invariant-flops
invariant-flops l = record {
  hands : l.hands ≡ map (hand_of l.count) (range_with_len 0 l.counter);
  deck : deck_in l.deck ≡ deck_before l.count l.counter;
  left : length l.deck.left.items ≤ l.count;
}
