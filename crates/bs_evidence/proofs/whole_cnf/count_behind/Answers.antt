use Rattle.std.proofs.Common.{arith}
use Rattle.bs_evidence.proofs.Bounds.{counted, count_fits}
use Rattle.bs_evidence.proofs.whole_cnf.count_behind.Goals as goal

pub overflow_add-result : goal.overflow_add-result
overflow_add-result c =
    let less = count_fits c.args.asked.now c.requires c.count_so_far-count.result c.count_so_far-count.ensures in
    omega (arith, less)

pub returns : goal.returns
returns c = counted c.args.asked.now c.requires c.count_so_far-count.result c.count_so_far-count.ensures
