use Rattle.std.proofs.Common.{arith}
use Rattle.bs_inspect_check.specs.Text.{missing_line, signal_missing}
use Rattle.bs_inspect_check.proofs.ToldLemmas.{count_more, told_more}
use Rattle.bs_inspect_check.proofs.missing.push_first.Goals as goal

pub signals-preserved : goal.signals-preserved
signals-preserved c = record {
  count =
      count_more (signal_missing c.args.comparisons.now) c.args.signals.now c.signals.i c.signals.told c.one_if-told.result c.index-signals-i.result c.signal_missing-missing.result
      (omega (arith, c.signals-test.true)) c.signals.invariant.count c.index-signals-i.is c.signal_missing-missing.ensures c.one_if-told.ensures.is;
  few = omega (arith, c.signals.invariant.few, c.one_if-told.ensures.small);
  text =
      told_more missing_line (signal_missing c.args.comparisons.now) c.args.signals.now c.signals.i c.signals.told c.index-signals-i.result c.signal_missing-missing.result c.args.text.now.items c.signals.text.items
      c.push_told.new.text.items (omega (arith, c.signals-test.true)) c.signals.invariant.count c.signals.invariant.text c.index-signals-i.is c.signal_missing-missing.ensures
      c.in_ok-push_told.ensures;
}
