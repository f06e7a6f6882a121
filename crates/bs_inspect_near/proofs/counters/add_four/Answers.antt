use Rattle.bs_inspect_near.proofs.CounterLemmas.{four_added}
use Rattle.bs_inspect_near.proofs.counters.add_four.Goals as goal

pub returns : goal.returns
returns c =
    four_added c.args.digits.now.items c.args.a c.args.b c.args.c c.args.d c.index-first.result.now c.full-half.result.0 c.full-half.result.1
    c.full-low.result.0 c.full-low.result.1 c.index-second.result.now c.full-next.result.0 c.full-next.result.1 c.carry_on.new.digits.items
    c.requires c.index-first.ensures c.full-half.ensures c.full-low.ensures c.index-second.ensures c.full-next.ensures c.carry_on.ensures
