use Rattle.std.proofs.Common.{arith}
use Rattle.bs_inspect_signature.specs.Deck.{deck_in}
use Rattle.bs_inspect_signature.proofs.DeckLemmas.{none_drawn, one_drawn, place_there}
use Rattle.bs_inspect_signature.proofs.deck.draw_hand.Goals as goal

pub items-init : goal.items-init
items-init c = none_drawn (deck_in c.args.deck.now) c.new-items.result c.new-items.ensures

pub items-preserved : goal.items-preserved
items-preserved c =
    one_drawn (deck_in c.args.deck.now) (deck_in c.items.deck) (deck_in c.draw.new.deck) c.items.counter c.draw.result c.items.items c.push.new.self
    c.items.invariant (place_there (deck_in c.items.deck) (omega (arith, c.items.invariant.fewer, c.items-test.true, c.requires.enough)))
    c.draw.ensures.item c.draw.ensures.rest c.in_ok-push.ensures.ok
