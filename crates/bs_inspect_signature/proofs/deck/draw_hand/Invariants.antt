use Rattle.bs_inspect_signature.specs.Deck.{deck_in}
use Rattle.bs_inspect_signature.proofs.DeckLemmas.{IsDrawn}
use Rattle.bs_inspect_signature.proofs.deck.draw_hand.Given as goal

abbrev pub invariant-items : goal.invariant-items
invariant-items l = IsDrawn (deck_in l.initial.deck) (deck_in l.deck) l.counter l.items
