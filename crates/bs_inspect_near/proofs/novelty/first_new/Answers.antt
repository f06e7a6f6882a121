use Rattle.std.proofs.Common.{arith, rules}
use Rattle.bs_inspect_near.proofs.NoveltyLemmas.{none_all, none_more}
use Rattle.bs_inspect_near.proofs.novelty.first_new.Goals as goal

pub states-preserved : goal.states-preserved
states-preserved c =
    none_more c.args.own.now c.args.places.now c.args.values.now c.states.i c.get.result.now _ (omega (arith, c.states-test.true, c.len-i-end.ensures))
    c.get.ensures.value c.in_ok-is_new.ensures (search rules) c.states.invariant

pub returns : goal.returns
returns c = none_all c.args.own.now c.args.places.now c.args.values.now c.states.i (omega (arith, c.states-test.false, c.len-i-end.ensures)) c.states.invariant
