use Rattle.std.proofs.Common.{◌-◌, arith, length, drop}
use Rattle.bs_arena.proofs.Fitting.{came_last}
use Rattle.bs_arena.proofs.activity_heap.drop_first.Goals as goal

pub returns-clause-first : goal.returns-clause-first
returns-clause-first c =
    let h = c.args.heap.now.items in
    let k = c.exchange.new.heap in
    came_last h c.as_mut_slice.result.now k (drop (length k) h) c.args.heap.now.len (c.len-last.result - 1) (length c.drop_last.new.heap.items)
    c.drop_last.result c.as_mut_slice.ensures.value (omega (arith, c.args.heap.now.ok.0))
    (omega (arith, c.len-last.ensures, c.args.heap.now.ok.0, c.requires.some)) c.exchange.ensures.moved c.drop_last.ensures.long c.drop_last.ensures.last
