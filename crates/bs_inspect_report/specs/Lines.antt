-- The signals of the code as the definitions see them.
use Rattle.std.specs.Prelude.{map}
use Rattle.bs_inspect_view.specs.Signals.{signal_in}
use Rattle.bs_inspect_report.specs.declared.named.Signals.{Signals as CodeSignals}
use Rattle.bs_inspect_report.specs.Trace.{Signals}

abbrev pub signals_in : CodeSignals → Signals
signals_in s = record { flops = map signal_in s.flops.items; inputs = map signal_in s.inputs.items }
