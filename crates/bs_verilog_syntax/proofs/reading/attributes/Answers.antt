use Rattle.std.proofs.Common.{inr, arith}
use Rattle.bs_verilog_syntax.proofs.AttributeLemmas.{over, unclosed, on, ended}
use Rattle.bs_verilog_syntax.proofs.reading.attributes.Goals as goal

pub returns-in-Over-clause-skips : goal.returns-in-Over-clause-skips
returns-in-Over-clause-skips c = over c.loop-rest.inside c.loop-rest.rest.now c.sort_of.result _ c.loop-rest-test.true c.sort_of.ensures c.in-Over.ensures
    c.loop-rest.invariant.1

pub returns-in-Unclosed-clause-skips : goal.returns-in-Unclosed-clause-skips
returns-in-Unclosed-clause-skips c =
    inr (rw c.place_of.ensures (unclosed c.loop-rest.inside c.loop-rest.rest.now c.sort_of.result _ c.loop-rest-test.true c.sort_of.ensures
    c.in-Unclosed.ensures c.loop-rest.invariant.1))

pub loop-rest-preserved : goal.loop-rest-preserved
loop-rest-preserved c = (
  omega (arith, c.rest_of-rest.ensures.within, c.loop-rest.invariant.0),
  rw c.rest_of-rest.ensures.rest (on c.loop-rest.inside c.in-On.next c.loop-rest.rest.now c.sort_of.result _ c.loop-rest-test.true c.sort_of.ensures
      c.in-On.ensures c.loop-rest.invariant.1),
)

pub returns-clause-skips : goal.returns-clause-skips
returns-clause-skips c = ended c.loop-rest.inside c.loop-rest.rest.now _ (omega (arith, c.loop-rest-test.false)) c.loop-rest.invariant.1
