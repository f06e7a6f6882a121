use Rattle.std.proofs.Common.{arith}
use Rattle.bs_lex.proofs.ScanLemmas.{on_passed, on_made, on_bad, at_end}
use Rattle.bs_lex.proofs.PlacingLemmas.{made_lies}
use Rattle.bs_lex.proofs.scan.next_token.Goals as goal

pub loop-at-preserved : goal.loop-at-preserved
loop-at-preserved c = record {
  before = omega (arith, c.loop-at.invariant.before);
  within = omega (arith, c.loop-at-test.true, c.in-Passed.ensures.within.1);
  same = on_passed c.args.bytes.now c.args.from c.loop-at.at c.in-Passed.size c.loop-at-test.true c.in-Passed.ensures.piece c.in-Passed.ensures.within
      c.loop-at.invariant.same;
}

pub returns-in-Made : goal.returns-in-Made
returns-in-Made c = (
  on_made c.args.bytes.now c.args.from c.loop-at.at c.in-Made.size c.in-Made.kind c.loop-at-test.true c.in-Made.ensures.piece
      c.in-Made.ensures.within c.loop-at.invariant.same,
  made_lies c.args.bytes.now c.args.from c.loop-at.at c.in-Made.size c.in-Made.kind c.loop-at.invariant.before c.loop-at-test.true
      c.in-Made.ensures.piece c.in-Made.ensures.within,
)

pub returns-in-Bad : goal.returns-in-Bad
returns-in-Bad c = on_bad c.args.bytes.now c.args.from c.loop-at.at c.in-Bad.ahead c.loop-at-test.true c.in-Bad.ensures.piece c.loop-at.invariant.same

pub returns : goal.returns
returns c = at_end c.args.bytes.now c.args.from c.loop-at.at c.loop-at-test.false c.loop-at.invariant.same
