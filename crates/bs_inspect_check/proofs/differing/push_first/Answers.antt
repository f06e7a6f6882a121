use Rattle.std.proofs.Common.{arith}
use Rattle.bs_inspect_check.specs.Text.{difference_line, signal_differs}
use Rattle.bs_inspect_check.proofs.ToldLemmas.{count_more, told_more}
use Rattle.bs_inspect_check.proofs.differing.push_first.Goals as goal

pub signals-preserved : goal.signals-preserved
signals-preserved c = record {
  count =
      count_more (signal_differs c.args.end.now) c.args.signals.now c.signals.i c.signals.told c.one_if-told.result c.index-signals-i.result c.signal_differs-differs.result
      (omega (arith, c.signals-test.true)) c.signals.invariant.count c.index-signals-i.is c.signal_differs-differs.ensures c.one_if-told.ensures.is;
  few = omega (arith, c.signals.invariant.few, c.one_if-told.ensures.small);
  text =
      told_more (difference_line c.args.end.now) (signal_differs c.args.end.now) c.args.signals.now c.signals.i c.signals.told c.index-signals-i.result c.signal_differs-differs.result c.args.text.now.items c.signals.text.items
      c.push_told.new.text.items (omega (arith, c.signals-test.true)) c.signals.invariant.count c.signals.invariant.text c.index-signals-i.is c.signal_differs-differs.ensures
      c.in_ok-push_told.ensures;
}
