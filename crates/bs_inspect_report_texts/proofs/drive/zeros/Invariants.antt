use Rattle.std.proofs.Common.{◌≡◌, length}
use Rattle.bs_inspect_report_texts.proofs.drive.zeros.Given as goal

abbrev pub invariant-zeros : goal.invariant-zeros
invariant-zeros l = length l.bits ≡ l.counter
