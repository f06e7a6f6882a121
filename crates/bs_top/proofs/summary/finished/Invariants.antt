use Rattle.std.proofs.Common.{◌≡◌, ◌≤◌, take}
use Rattle.std.specs.Prelude.{count_by}
use Rattle.bs_top.specs.Summary.{is_finished}
use Rattle.bs_top.proofs.summary.finished.Given as goal

abbrev pub invariant-steps : goal.invariant-steps
invariant-steps l = record {
  count : l.count ≡ count_by is_finished (take l.step-index l.steps);
  small : l.count ≤ l.step-index;
}
