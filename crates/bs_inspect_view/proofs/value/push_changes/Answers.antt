use Rattle.std.proofs.Common.{ap, ◌∙◌, ◌++◌}
use Rattle.std.specs.Option.{option_map}
use Rattle.bs_inspect_view.specs.declared.signal.Signal.{Signal as CodeSignal}
use Rattle.bs_inspect_view.specs.Signals.{signal_in}
use Rattle.bs_inspect_view.specs.View.{change_text}
use Rattle.bs_inspect_view.proofs.PlaceLemmas.{change_step}
use Rattle.bs_inspect_view.proofs.value.push_changes.Goals as goal

pub signals-preserved : goal.signals-preserved
signals-preserved c =
    change_step c.args.signals.now (option_map (λ b. b.now) c.args.before) c.args.now.now c.args.text.now.items c.signals.text.items
    c.push_change.new.text.items c.signals.i c.index-signals-i.result c.signals-test.true c.signals.invariant
    (c.in_ok-push_change.ensures
    ∙ ap (λ (s : CodeSignal). c.signals.text.items ++ change_text (option_map (λ b. b.now) c.args.before) c.args.now.now c.signals.i (signal_in s))
    c.index-signals-i.is)
