use Rattle.std.proofs.Common.{arith}
use Rattle.bs_inspect_near.proofs.CounterLemmas.{add_more, carry_all, carry_early, four_of}
use Rattle.bs_inspect_near.proofs.counters.carry_on.Goals as goal

pub returns-then-carry-eq0 : goal.returns-then-carry-eq0
returns-then-carry-eq0 c =
    carry_early c.args.digits.now.items c.digits.digits.items c.args.word c.digits.j c.digits.carry c.if-carry-eq0.true c.digits.invariant

pub digits-preserved : goal.digits-preserved
digits-preserved c =
    add_more c.args.digits.now.items c.digits.digits.items (four_of c.args.word) c.digits.j c.digits.carry c.index-old.result.now
    (omega (arith, c.digits-test.true, c.len-j-end.ensures, c.digits.invariant.size)) c.index-old.ensures c.digits.invariant

pub returns : goal.returns
returns c =
    carry_all c.args.digits.now.items c.digits.digits.items c.args.word c.digits.j c.digits.carry
    (omega (arith, c.digits-test.false, c.len-j-end.ensures)) c.digits.invariant
