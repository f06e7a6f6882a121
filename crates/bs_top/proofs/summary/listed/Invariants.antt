use Rattle.std.proofs.Common.{◌≡◌, ◌≤◌, ◌*◌, take}
use Rattle.bs_report.specs.declared.limits.TheConstants.{MAX_CANDIDATES}
use Rattle.bs_top.specs.Summary.{listed_in}
use Rattle.bs_top.proofs.summary.listed.Given as goal

abbrev pub invariant-steps : goal.invariant-steps
invariant-steps l = record {
  sum : l.sum ≡ listed_in (take l.step-index l.steps);
  small : l.sum ≤ MAX_CANDIDATES * l.step-index;
}
