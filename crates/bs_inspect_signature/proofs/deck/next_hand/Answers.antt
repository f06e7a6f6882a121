use Rattle.std.proofs.Common.{arith}
use Rattle.bs_inspect_signature.specs.Deck.{deck_in}
use Rattle.bs_inspect_signature.proofs.DeckLemmas.{behind_few, filled_enough, filled_few, filled_is}
use Rattle.bs_inspect_signature.proofs.deck.next_hand.Goals as goal

pub draw_hand-requires-clause-enough : goal.draw_hand-requires-clause-enough
draw_hand-requires-clause-enough c =
    omega (
      arith,
      c.weight_of.ensures,
      filled_enough c.args.count (deck_in c.args.deck.now) (deck_in c.fill.new.deck) c.requires.some c.requires.left c.in_ok-fill.ensures,
    )

pub draw_hand-requires-clause-few : goal.draw_hand-requires-clause-few
draw_hand-requires-clause-few c =
    omega (
      arith,
      c.requires.few,
      filled_few c.args.count (deck_in c.args.deck.now) (deck_in c.fill.new.deck) c.requires.some c.requires.left c.in_ok-fill.ensures,
    )

pub returns-clause-left : goal.returns-clause-left
returns-clause-left c =
    behind_few c.args.count (deck_in c.fill.new.deck) (deck_in c.draw_hand.new.deck) c.weight_of.result
    (filled_is c.args.count (deck_in c.args.deck.now) (deck_in c.fill.new.deck) c.requires.some c.requires.left c.in_ok-fill.ensures)
    c.weight_of.ensures c.in_ok-items.ensures.rest
