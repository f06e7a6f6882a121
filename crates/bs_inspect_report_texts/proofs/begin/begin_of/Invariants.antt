use Rattle.std.proofs.Common.{◌≡◌, take}
use Rattle.bs_inspect_report_texts.proofs.DriveLemmas.{begun}
use Rattle.bs_inspect_report_texts.proofs.begin.begin_of.Given as goal

abbrev pub invariant-steps : goal.invariant-steps
invariant-steps l = l.found ≡ begun (take l.i l.report.steps)
