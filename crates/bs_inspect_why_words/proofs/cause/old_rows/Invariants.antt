use Rattle.std.proofs.Common.{◌≡◌, map, take}
use Rattle.bs_inspect_view.specs.Signals.{signal_in}
use Rattle.bs_inspect_why_words.specs.Causes.{old_rows}
use Rattle.bs_inspect_why_words.proofs.cause.old_rows.Given as goal

abbrev pub invariant-rows : goal.invariant-rows
invariant-rows l = l.olds.items ≡ old_rows l.causes.shares l.causes.cycle l.causes.bits.now (map signal_in l.causes.signals.now) l.bit (take l.i l.rows)
