use Rattle.std.proofs.Common.{length, arith, ◌∙◌, sym}
use Rattle.std.proofs.lemmas.Bool.{le-ltb}
use Rattle.bs_solve_lemmas.proofs.Rising.{less_next, among_here, among_none}
use Rattle.bs_solve_lemmas.proofs.ids.is_leaving.Goals.{then-loop-next-test+else-gone-next, else-loop-next-test}
use Rattle.bs_solve_lemmas.proofs.ids.is_leaving.Goals as goal

pub loop-next-preserved : goal.loop-next-preserved
loop-next-preserved c = record {
  low = omega (arith, c.loop-next-test.true);
  less = less_next c.args.gone.now c.args.id c.loop-next.next 0 c.loop-next.invariant.less c.loop-next-test.true c.if-gone-next.true;
}

pub returns-then-next-gone-clause-result : goal.returns-then-next-gone-clause-result
returns-then-next-gone-clause-result c = elim c.loop-next-test.branch [
  | then-loop-next-test+else-gone-next w ↦
      among_here c.args.gone.now c.args.id c.loop-next.next 0 c.requires.rises c.loop-next.invariant.less c.if-next-gone.true
      (omega (arith, w.if-gone-next.false))
  | else-loop-next-test w ↦ absurd (omega (arith, c.if-next-gone.true, w.loop-next-test.false))
]

pub returns-else-next-gone-clause-result : goal.returns-else-next-gone-clause-result
returns-else-next-gone-clause-result c =
    le-ltb c.loop-next.next (length c.args.gone.now) c.if-next-gone.false ∙
    sym (among_none c.args.gone.now c.args.id c.loop-next.next c.loop-next.invariant.less c.if-next-gone.false)
