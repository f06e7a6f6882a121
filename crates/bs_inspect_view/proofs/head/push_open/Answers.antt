use Rattle.std.proofs.Common.{ap, ◌∙◌, ◌++◌, map, List, ℕ}
use Rattle.bs_inspect_view.specs.declared.signal.Signal.{Signal as CodeSignal}
use Rattle.bs_inspect_view.specs.Signals.{signal_in}
use Rattle.bs_inspect_view.specs.View.{path_before, scoped}
use Rattle.bs_inspect_view.proofs.PlaceLemmas.{variable_step}
use Rattle.bs_inspect_view.proofs.head.push_open.Goals as goal

pub signals-preserved : goal.signals-preserved
signals-preserved c =
    variable_step c.args.signals.now c.args.text.now.items c.signals.text.items c.push_scoped.new.text.items c.signals.i c.index-signals-i.result
    c.signals-test.true c.signals.invariant
    (c.in_ok-push_scoped.ensures
    ∙ (ap (λ (p : List ℕ). c.signals.text.items ++ scoped p c.signals.i (signal_in c.index-signals-i.result)) c.path_before.ensures
    ∙ ap (λ (s : CodeSignal). c.signals.text.items ++ scoped (path_before (map signal_in c.args.signals.now) c.signals.i) c.signals.i (signal_in s))
    c.index-signals-i.is))
