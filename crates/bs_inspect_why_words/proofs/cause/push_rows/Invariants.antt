use Rattle.std.proofs.Common.{◌≡◌, ◌++◌, map, take}
use Rattle.std.specs.List.{flat_map}
use Rattle.bs_inspect_view.specs.Signals.{signal_in}
use Rattle.bs_inspect_why_words.specs.Causes.{row_line}
use Rattle.bs_inspect_why_words.proofs.cause.push_rows.Given as goal

abbrev pub invariant-rows : goal.invariant-rows
invariant-rows l = l.text.items ≡ l.initial.text.items ++ flat_map (row_line l.causes.shares l.causes.cycle l.causes.bits.now (map signal_in l.causes.signals.now)) (take l.i l.rows)
