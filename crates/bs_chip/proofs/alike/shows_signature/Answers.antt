use Rattle.std.proofs.Common.{arith}
use Rattle.bs_chip.proofs.AlikeLemmas.{not_shown_at, shown_where}
use Rattle.bs_chip.proofs.alike.shows_signature.Goals as goal

pub returns-then-item_bit-get : goal.returns-then-item_bit-get
returns-then-item_bit-get c =
    not_shown_at c.args.choice.now c.args.planes.now c.args.wide c.args.lane c.items.i c.args.stored.now c.item_bit.result c.get.result
    c.item_bit.ensures c.get.ensures.value c.if-item_bit-get.true

pub returns : goal.returns
returns c =
    shown_where c.args.choice.now c.args.planes.now c.args.wide c.args.lane c.args.stored.now c.requires.items
    (λ k lt. c.items.invariant k (omega (arith, lt, c.items-test.false, c.len-i-end.ensures)))
