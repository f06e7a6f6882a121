use Rattle.bs_inspect_signature.proofs.DeckLemmas.{first_is}
use Rattle.bs_inspect_signature.proofs.deck.first_deck.Goals as goal

pub returns : goal.returns
returns c = first_is c.args.count c.new.result.items c.new-2.result c.new.ensures.items c.new-2.ensures
