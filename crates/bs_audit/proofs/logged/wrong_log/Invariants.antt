use Rattle.std.proofs.Common.{◌≡◌, drop}
use Rattle.bs_log.specs.Steps.{steps_of}
use Rattle.bs_report.specs.Valid.{each_step, first_of_all, log_parts}
use Rattle.bs_audit.specs.Logged.{basis_with}
use Rattle.bs_audit.proofs.logged.wrong_log.Given as goal

abbrev pub invariant-steps : goal.invariant-steps
invariant-steps l = record {
  lines : drop l.i (steps_of l.report.log) ≡ steps_of l.rest;
  left : first_of_all (each_step (log_parts (basis_with l.encoding l.assumptions) l.report) 0 l.report.steps)
      ≡ first_of_all (each_step (log_parts (basis_with l.encoding l.assumptions) l.report) l.i (drop l.i l.report.steps));
}
