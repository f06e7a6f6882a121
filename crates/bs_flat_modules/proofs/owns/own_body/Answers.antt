use Rattle.bs_verilog_scope.specs.Checking.{marked}
use Rattle.bs_flat_modules.proofs.PieceLemmas.{tail_is}
use Rattle.bs_flat_modules.proofs.ItemLemmas.{own_whole}
use Rattle.bs_flat_modules.proofs.owns.own_body.Goals as goal

pub returns : goal.returns
returns c =
    own_whole (marked c.args.marks.now) c.args.own.now _ _ c.args.body.now _ _ c.item_size-size.result
    (tail_is c.item_size-size.result c.args.body.now) c.item_size-size.ensures c.part.ensures
    c.in_ok-copy.ensures c.in_ok-own_items.ensures
