use Rattle.bs_reach_unrolled.specs.Unrolled.{unrolled}
use Rattle.bs_reach_unrolled.specs.Rows.{AreRows}
use Rattle.bs_reach_unrolled.proofs.cone.gather.Given as goal

abbrev pub invariant-steps : goal.invariant-steps
invariant-steps l = AreRows (unrolled l.encoding l.reset l.k) l.cone.ids.items l.cone.clauses.items
