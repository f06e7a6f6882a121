use Rattle.std.proofs.Common.{◌≡◌, map}
use Rattle.bs_inspect_view.specs.Signals.{signal_in}
use Rattle.bs_inspect_why_words.specs.Rows.{rows_of}
use Rattle.bs_inspect_why_words.proofs.row.rows_of.Given as goal

abbrev pub invariant-signals : goal.invariant-signals
invariant-signals l = l.rows.items ≡ rows_of l.ages (map signal_in l.signals) l.i
