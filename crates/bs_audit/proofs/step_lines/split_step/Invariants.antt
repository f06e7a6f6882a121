use Rattle.std.proofs.Common.{take}
use Rattle.bs_audit.proofs.Lines.{NoRetire}
use Rattle.bs_audit.proofs.step_lines.split_step.Given as goal

abbrev pub invariant-lines : goal.invariant-lines
invariant-lines l = NoRetire (take l.i l.lines)
