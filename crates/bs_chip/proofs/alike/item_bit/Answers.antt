use Rattle.std.proofs.Common.{ℕ, List, ◌/◌, ◌∙◌, subst}
use Rattle.bs_chip.specs.Parities.{IsParityWord}
use Rattle.bs_chip.proofs.AlikeLemmas.{item_bit_is}
use Rattle.bs_chip.proofs.alike.item_bit.Goals as goal

pub returns : goal.returns
returns c =
    let is = item_bit_is c.args.choice.now c.args.planes.now c.item-item.result.now c.args.wide c.args.lane c.args.i c.item_word-word.result
    c.requires.item c.item-item.ensures.lookup c.item-item.ensures.range in
    c.has_bit.ensures
    ∙ is (subst (λ (item : List ℕ). IsParityWord item c.args.planes.now c.args.wide (c.args.lane / 64) c.item_word-word.result) c.slice.ensures
    c.item_word-word.ensures)
