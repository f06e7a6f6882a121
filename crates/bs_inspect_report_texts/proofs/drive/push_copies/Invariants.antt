use Rattle.std.proofs.Common.{◌≡◌, ◌++◌, take}
use Rattle.bs_inspect_report_texts.proofs.drive.push_copies.Given as goal

abbrev pub invariant-inputs : goal.invariant-inputs
invariant-inputs l = l.into ≡ l.initial.into ++ take l.i l.inputs
