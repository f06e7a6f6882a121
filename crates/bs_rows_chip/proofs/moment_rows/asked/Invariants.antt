use Rattle.std.proofs.Common.{◌≡◌}
use Rattle.bs_rows_chip.proofs.moment_rows.asked.Given as goal

abbrev pub invariant-times : goal.invariant-times
invariant-times l = l.chip.recording ≡ l.initial.chip.recording
