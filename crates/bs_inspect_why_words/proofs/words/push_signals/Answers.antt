use Rattle.std.proofs.Common.{List, ◌++◌, map, ap, sym, ◌∙◌, arith}
use Rattle.std.proofs.lemmas.List.{append-nil, take_all}
use Rattle.bs_inspect_view.specs.Signals.{signal_in}
use Rattle.bs_inspect_view.specs.declared.signal.Signal.{Signal as CodeSignal}
use Rattle.bs_inspect_why_words.specs.Facts.{signals_words}
use Rattle.bs_inspect_why_words.proofs.WordLemmas.{narrow_here, signals_more}
use Rattle.bs_inspect_why_words.proofs.words.push_signals.Goals as goal

pub signals-init : goal.signals-init
signals-init c = sym (append-nil c.args.text.now.items)

pub push_signal-requires : goal.push_signal-requires
push_signal-requires c =
    narrow_here c.args.signals.now c.signals.i c.index-signals-i.result c.requires (omega (arith, c.signals-test.true)) c.index-signals-i.is

pub signals-preserved : goal.signals-preserved
signals-preserved c =
    signals_more c.args.bits.now c.args.signals.now c.signals.i c.index-signals-i.result c.args.text.now.items c.signals.text.items
    c.push_comma.new.text.items c.push_signal.new.text.items (omega (arith, c.signals-test.true)) c.index-signals-i.is c.signals.invariant
    c.in_ok-push_comma.ensures c.in_ok-push_signal.ensures

pub returns : goal.returns
returns c =
    c.signals.invariant
    ∙ ap (λ (ss : List CodeSignal). c.args.text.now.items ++ signals_words c.args.bits.now (map signal_in ss))
    (take_all c.signals.i c.args.signals.now (omega (arith, c.signals-test.false)))
