use Rattle.bs_inspect_signature.specs.Deck.{deck_in, filled, hand, hand_of, weight_of}
use Rattle.std.proofs.Common.{ap, ◌∙◌}
use Rattle.bs_inspect_signature.specs.Deck.{Deck}
use Rattle.bs_inspect_signature.proofs.DeckLemmas.{first_left, next_is}
use Rattle.bs_inspect_signature.proofs.MixedLemmas.{mapped_place}
use Rattle.bs_inspect_signature.proofs.parity_items.deal.Goals as goal

pub flops-init : goal.flops-init
flops-init c = record {
  hands = c.new-hands.ensures;
  deck = c.requires.first;
  left = first_left c.args.count (deck_in c.args.deck.now) c.requires.first;
}

pub flops-preserved : goal.flops-preserved
flops-preserved c = record {
  hands =
      mapped_place (hand_of c.args.count) c.flops.counter c.flops.hands c.push.new.self c.in_ok-next_hand.field-0 c.flops.invariant.hands
      (c.in_ok-next_hand.ensures.items ∙ ap (λ (d : Deck). hand (weight_of c.args.count) (filled c.args.count d)) c.flops.invariant.deck)
      c.in_ok-push.ensures.ok;
  deck =
      next_is c.args.count c.flops.counter (deck_in c.flops.deck) (deck_in c.next_hand.new.deck) c.flops.invariant.deck c.in_ok-next_hand.ensures.rest;
  left = c.in_ok-next_hand.ensures.left;
}
