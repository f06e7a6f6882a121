use Rattle.std.proofs.Common.{arith}
use Rattle.bs_inspect_why_words.specs.Heads.{value_behind}
use Rattle.bs_inspect_why_words.proofs.StepLemmas.{signals_more}
use Rattle.bs_inspect_why_words.proofs.head.push_values.Goals as goal

pub signals-preserved : goal.signals-preserved
signals-preserved c =
    signals_more (value_behind c.args.bits.now) c.args.signals.now c.signals.signal-index c.signal-item.result c.args.text.now.items
    c.signals.text.items c.push_value_behind.new.text.items (omega (arith, c.signals-test.true)) c.signal-item.is c.signals.invariant
    c.in_ok-push_value_behind.ensures
